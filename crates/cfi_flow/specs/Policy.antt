-- A policy: lines that each give one site its targets. A line is wrong when it names what is no instruction's start, a site that
-- goes to no computed address, or a site of an earlier line.
use Rattle.std.specs.Prelude.{◌≡◌, ℕ, ◌+◌, Bool, false, ◌==◌, ◌||◌, not, ◌&&◌, if◌then◌else◌, Option, Some, None, option_map, option_and_then, List, [], length, map, take, slice_index_or}
use Rattle.std.specs.List.{find, list_any, position}
use Rattle.std.specs.Option.{is_none, is_some}
use Rattle.least.specs.First.{first_below}
use Rattle.obj_input.specs.Names.{find_spot}
use Rattle.obj_program.specs.declared.item.Item.{Item}
use Rattle.obj_program.specs.Program.{Program, count, is_end, item_of, place_of}
use Rattle.cfi_graph.specs.declared.line.SiteKind.{SiteKind}
use Rattle.cfi_policy.specs.declared.policy.PlaceName.{PlaceName}
use Rattle.cfi_policy.specs.declared.policy.PolicyLine.{PolicyLine}
use Rattle.cfi_policy.specs.Policy.{PolicyParts, first_line}
use Rattle.rv_word.specs.declared.end.End.{End}
use Rattle.rv_word.specs.declared.end.End.TheVariants.{Fault, NoMemory}
use Rattle.cfi_flow.specs.declared.wrong_line.WrongLine.{WrongLine}
use Rattle.cfi_flow.specs.Below.{where_below}
use Rattle.cfi_flow.specs.Raw.{RawGraph}
use Rattle.cfi_flow.specs.Sites.{RawSite, reached, site_kind, sites_below}

-- a place that is an instruction's start
abbrev pub if_instruction : Program → ℕ → Option ℕ
if_instruction program k = if is_end (item_of program k).kind then None else Some k

abbrev pub instruction_at : Program → ℕ × ℕ → Option ℕ
instruction_at program spot = option_and_then (if_instruction program) (place_of program.items spot.0 spot.1)

-- the instruction that stands so far from the first symbol of a name
unfoldable pub place_named : Program → PlaceName → Option ℕ
place_named program name =
    option_and_then (λ (spot : ℕ × ℕ). instruction_at program (spot.0, spot.1 + name.offset)) (find_spot program.names name.symbol)

abbrev pub is_number : ℕ → Option ℕ → Bool
is_number k None = false
is_number k (Some j) = j == k

abbrev pub names_place : Program → ℕ → PlaceName → Bool
names_place program k name = is_number k (place_named program name)

abbrev pub names_site : Program → ℕ → PolicyLine → Bool
names_site program k line = names_place program k line.site

abbrev pub no_line : PolicyLine
no_line = record { site = record { symbol = []; offset = 0 }; targets = [] }

abbrev pub line_of : List PolicyLine → ℕ → PolicyLine
line_of lines j = slice_index_or lines j no_line

-- a site that no earlier line names
abbrev pub is_free_site : Program → List PolicyLine → ℕ → Option ℕ → Bool
is_free_site program lines j None = false
is_free_site program lines j (Some k) =
    is_some (site_kind (item_of program k).kind) && is_none (position (names_site program k) (take j lines))

abbrev pub misses_target : Program → PolicyLine → Bool
misses_target program line = list_any (λ (name : PlaceName). is_none (place_named program name)) line.targets

abbrev pub is_wrong_line : Program → List PolicyLine → ℕ → Bool
is_wrong_line program lines j =
    not (is_free_site program lines j (place_named program (line_of lines j).site)) || misses_target program (line_of lines j)

-- the number of the first wrong line, where the first has this number
unfoldable pub wrong_from : ℕ → Program → List PolicyLine → Option ℕ
wrong_from first program lines = option_map (λ j. j + first) (first_below (is_wrong_line program lines) (length lines))

-- and of those in a policy's text
abbrev pub wrong_line : Program → PolicyParts → Option ℕ
wrong_line program policy = wrong_from (first_line policy.calls) program policy.lines

-- what a line allows
abbrev pub allowed : Program → PolicyLine → List ℕ
allowed program line = where_below (λ t. list_any (names_place program t) line.targets) (count program)

abbrev pub targets_by : Program → SiteKind → ℕ → Option PolicyLine → List ℕ
targets_by program kind k None = reached program kind k
targets_by program kind k (Some line) = allowed program line

-- a line that names a site replaces what it reaches by itself
abbrev pub targets_under : Program → List PolicyLine → SiteKind → ℕ → List ℕ
targets_under program lines kind k = targets_by program kind k (find (names_site program k) lines)

-- the sites of a program under a policy
abbrev pub raw_sites : Program → List PolicyLine → List RawSite
raw_sites program lines = sites_below program (targets_under program lines) (count program)

-- the raw graph of a program under a policy
pub record IsRaw (program : Program) (policy : PolicyParts) (raw : RawGraph) : Type 0 where
  pub right : wrong_line program policy ≡ None
  pub sites : raw.sites ≡ raw_sites program policy.lines
  pub taken : raw.taken ≡ map (λ (i : Item). i.taken) program.items
  pub calls : raw.calls ≡ policy.calls

-- why there is none: the first wrong line, or want of memory
abbrev pub EndsFrom : ℕ → Program → List PolicyLine → End WrongLine → Type 0
EndsFrom first program lines (Fault wrong) = wrong_from first program lines ≡ Some wrong.number
EndsFrom first program lines NoMemory = Unit {0}

abbrev pub Ends : Program → PolicyParts → End WrongLine → Type 0
Ends program policy end = EndsFrom (first_line policy.calls) program policy.lines end
