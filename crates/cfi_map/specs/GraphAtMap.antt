-- The graph of a program at a map: the list of its system calls, if it has one, its leaves under version 3, its classes by the gates of
-- their targets, the opening's call of the entry, which stands where a run starts, and a line for each transfer at its word. Where the
-- words before a unit have a jump over what saves a site, that has a line too.
use Rattle.std.specs.Prelude.{ℕ, zero, suc, ◌+◌, ◌-◌, ◌*◌, Bool, if◌then◌else◌, Option, Some, None, List, [], ◌∷◌, ◌++◌, map, slice_index}
use Rattle.rv_image.specs.Form.{profile_for}
use Rattle.rv_image.specs.declared.unit_words.TheConstants as counts
use Rattle.rv_image.specs.declared.version.GraphVersion.{GraphVersion}
use Rattle.rv_image.specs.declared.version.GraphVersion.TheVariants.{OneLabel, TwoLabels, CalleeSaves}
use Rattle.rv_image.specs.MemoryMap.{Profile, START}
use Rattle.rv_image.specs.declared.form.Form.{Form}
use Rattle.obj_input.specs.declared.item_kind.ItemKind.{ItemKind}
use Rattle.obj_input.specs.declared.item_kind.ItemKind.TheVariants as is
use Rattle.obj_program.specs.declared.item.Item.{Item}
use Rattle.obj_program.specs.Program.{Program, count}
use Rattle.cfi_graph.specs.declared.line.GraphLine.{GraphLine}
use Rattle.cfi_graph.specs.declared.line.GraphLine.TheVariants as line
use Rattle.cfi_graph.specs.declared.line.SiteKind.TheVariants as site
use Rattle.cfi_closed.specs.Closed.{ClosedGraph, is_target}
use Rattle.cfi_map.specs.LabelOf.{Tagged, site_label, tagged}
use Rattle.cfi_leads.specs.Entered.{Entered, entered_at}
use Rattle.cfi_leads.specs.Entries.{is_call}
use Rattle.cfi_leads.specs.Leads.{enters}
use Rattle.cfi_leads.specs.Leaves.{is_leaf, leaf_end}
use Rattle.cfi_map.specs.Placement.{word_of, words_from}

-- a program with its closed graph at a map, entered at a place
pub record ProgramAtMap : Type 0 where
  pub profile : Profile
  pub program : Program
  pub closed : ClosedGraph
  pub gates : List ℕ
  pub entry : ℕ

-- a program that is written in a form, at these gates
abbrev pub program_at : Form → Program → ClosedGraph → List ℕ → ℕ → ProgramAtMap
program_at form program closed gates entry = record { profile = profile_for form; program = program; closed = closed; gates = gates; entry = entry }

-- the program without its gates
abbrev pub entered_in : ProgramAtMap → Entered
entered_in layout = entered_at layout.program layout.closed layout.entry

abbrev pub gate : ProgramAtMap → ℕ → ℕ
gate layout k = slice_index layout.gates k

abbrev pub word : ProgramAtMap → ℕ → ℕ
word layout k = word_of (entered_in layout) layout.gates k

-- the words of all places
abbrev pub words_at : ProgramAtMap → List ℕ
words_at layout = words_from (entered_in layout) 0 layout.gates

abbrev pub gate_to : ProgramAtMap → Option ℕ → ℕ
gate_to layout None = 0
gate_to layout (Some k) = gate layout k

abbrev pub with_line : Option GraphLine → List GraphLine → List GraphLine
with_line None lines = lines
with_line (Some one) lines = one ∷ lines

-- where calls arrive at a place: its gate; under version 3 what saves a site right before its unit, or the unit itself where none stands
abbrev pub arrival_by : GraphVersion → Bool → ℕ → ℕ → ℕ
arrival_by OneLabel saves gate word = gate
arrival_by TwoLabels saves gate word = gate
arrival_by CalleeSaves saves gate word = if saves then word - 4 * counts.ENTER_WORDS else word

abbrev pub arrival : ProgramAtMap → ℕ → ℕ
arrival layout k = arrival_by layout.closed.version (enters (entered_in layout) k) (gate layout k) (word layout k)

abbrev pub arrival_to : ProgramAtMap → Option ℕ → ℕ
arrival_to layout None = 0
arrival_to layout (Some k) = arrival layout k

-- where the direct transfer of a place leads
abbrev pub aim_of : ProgramAtMap → Item → ℕ
aim_of layout item = if is_call item.kind then arrival_to layout item.target else gate_to layout item.target

-- the lines of leaves, of those that begin among so many places from one on: each ends where the next piece of code begins
abbrev pub leaf_line : ProgramAtMap → ℕ → Option GraphLine
leaf_line layout e =
    if is_leaf (entered_in layout) e then Some (line.Leaf (word layout e) (gate layout (leaf_end (entered_in layout) e))) else None

unfoldable pub leaf_lines_from : ProgramAtMap → ℕ → ℕ → List GraphLine
leaf_lines_from layout k zero = []
leaf_lines_from layout k (suc n) = with_line (leaf_line layout k) (leaf_lines_from layout (k + 1) n)

abbrev pub leaf_lines_by : GraphVersion → ProgramAtMap → List GraphLine
leaf_lines_by OneLabel layout = []
leaf_lines_by TwoLabels layout = []
leaf_lines_by CalleeSaves layout = leaf_lines_from layout 0 (count layout.program)

-- the line of the jump before a place's unit over what saves a site: behind the word for computed jumps, if there is one, to the unit
abbrev pub jump_line_by : GraphVersion → Bool → Bool → ℕ → ℕ → Option GraphLine
jump_line_by OneLabel saves target gate word = None
jump_line_by TwoLabels saves target gate word = None
jump_line_by CalleeSaves saves target gate word =
    if saves then Some (line.Edge (if target then gate + 4 else gate) word) else None

abbrev pub jump_line : ProgramAtMap → ℕ → Option GraphLine
jump_line layout k =
    jump_line_by layout.closed.version (enters (entered_in layout) k) (is_target layout.closed.sides k) (gate layout k) (word layout k)

-- the lines of classes, each with its label
unfoldable pub class_lines : List ℕ → List ℕ → List Tagged → List GraphLine
class_lines gates (label ∷ labels) (t ∷ ts) = line.Class t.sort label (map (slice_index gates) t.class) ∷ class_lines gates labels ts
class_lines gates labels ts = []

abbrev pub line_of_kind : ItemKind → ℕ → ℕ → ℕ → Option GraphLine
line_of_kind is.Branch at target label = Some (line.Edge at target)
line_of_kind is.Jump at target label = Some (line.Edge at target)
line_of_kind is.Call at target label = Some (line.Call at target)
line_of_kind is.Ijump at target label = Some (line.Site at site.Jump label)
line_of_kind is.Icall at target label = Some (line.Site at site.Call label)
line_of_kind other at target label = None

-- the line of a place
abbrev pub line_for : ProgramAtMap → List ℕ → ℕ → Item → Option GraphLine
line_for layout labels k item = line_of_kind item.kind (word layout k) (aim_of layout item) (site_label labels layout.closed.sides k)

unfoldable pub place_lines : ProgramAtMap → List ℕ → ℕ → List Item → List GraphLine
place_lines layout labels k [] = []
place_lines layout labels k (item ∷ items) =
    with_line (jump_line layout k) (with_line (line_for layout labels k item) (place_lines layout labels (k + 1) items))

-- the line of a list of system calls, if there is one
abbrev pub call_lines : Option (List ℕ) → List GraphLine
call_lines None = []
call_lines (Some calls) = line.Calls calls ∷ []

-- the lines before those of addresses, under these labels of the classes
abbrev pub head_lines : ProgramAtMap → List ℕ → List GraphLine
head_lines layout labels =
    call_lines layout.closed.calls ++ (leaf_lines_by layout.closed.version layout ++ class_lines layout.gates labels (tagged layout.closed.sides))

-- all lines
abbrev pub graph_lines : ProgramAtMap → List ℕ → List GraphLine
graph_lines layout labels =
    head_lines layout labels ++ (line.Call START (arrival layout layout.entry) ∷ place_lines layout labels 0 layout.program.items)
