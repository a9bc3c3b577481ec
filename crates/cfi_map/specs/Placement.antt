-- Placements: where the unit of each place stands. Units stand one after another from the address after the prologue, each behind the
-- words of its lead, if it has any; a section's end has a stop.
use Rattle.std.specs.Prelude.{◌≡◌, ℕ, ◌+◌, ◌*◌, Bool, true, false, if◌then◌else◌, Option, Some, None, List, [], ◌∷◌, length, slice_index, slice_index_or}
use Rattle.rv_image.specs.declared.unit_words.TheConstants as counts
use Rattle.rv_image.specs.declared.version.GraphVersion.{GraphVersion}
use Rattle.rv_image.specs.declared.version.GraphVersion.TheVariants.{OneLabel, TwoLabels, CalleeSaves}
use Rattle.rv_instr.specs.declared.instr.Instr.{Instr}
use Rattle.rv_instr.specs.declared.instr.Instr.TheVariants.{Ecall}
use Rattle.rv_code.specs.Decode.{decoded}
use Rattle.obj_input.specs.declared.item_kind.ItemKind.{ItemKind}
use Rattle.obj_input.specs.declared.item_kind.ItemKind.TheVariants as is
use Rattle.obj_program.specs.declared.item.Item.{Item}
use Rattle.obj_program.specs.Program.{no_item}
use Rattle.cfi_leads.specs.Entered.{Entered}
use Rattle.cfi_leads.specs.Leads.{lead_size}
use Rattle.cfi_leads.specs.Leaves.{in_leaf}
use Rattle.cfi_map.specs.Groups.{AreGroups, bounds_in, is_short}

-- whether an instruction is an `ecall`, and whether that of a place is
abbrev pub is_ecall_instr : Option Instr → Bool
is_ecall_instr (Some Ecall) = true
is_ecall_instr other = false

abbrev pub is_ecall : Item → Bool
is_ecall item = is_ecall_instr (decoded item.word)

-- how many bytes the unit of an `ecall` has: under a list of system calls two words for each number, a jump and the `ecall`
abbrev pub call_size : Option (List ℕ) → ℕ
call_size (Some calls) = 8 + 8 * length calls
call_size None = 4

-- how many bytes the unit of a kind of place has; a branch has its whole size where it is long, a word and a jump, and is one word
-- where it is short; a store has it where it begins a group, behind the group's mask, and is one word where it is a later member
abbrev pub kind_size : Option (List ℕ) → ItemKind → Bool → Bool → ℕ
kind_size calls is.Store ecall whole = if whole then 4 * counts.STORE_WORDS else 4
kind_size calls is.System ecall whole = if ecall then call_size calls else 4
kind_size calls is.Branch ecall whole = if whole then 4 * counts.BRANCH_WORDS else 4
kind_size calls is.Call ecall whole = 4 * counts.CALL_WORDS
kind_size calls is.Return ecall whole = 4 * counts.RETURN_WORDS
kind_size calls is.Ijump ecall whole = 4 * counts.IJUMP_WORDS
kind_size calls is.Icall ecall whole = 4 * counts.ICALL_WORDS
kind_size calls other ecall whole = 4

-- the same where callees save the sites of calls: a mask has one word where the store's own offset is not negative, and else two, and a
-- leaf returns by x1 alone
abbrev pub lean_size : Option (List ℕ) → ItemKind → Bool → Bool → Bool → Bool → ℕ
lean_size calls is.Store ecall short inside whole = if whole then 4 * (if short then counts.SHORT_STORE_WORDS else counts.LONG_STORE_WORDS) else 4
lean_size calls is.Call ecall short inside whole = 4
lean_size calls is.Return ecall short inside whole = if inside then 4 else 4 * counts.RETURN_WORDS
lean_size calls is.Ijump ecall short inside whole = 4 * counts.LEAN_TRANSFER_WORDS
lean_size calls is.Icall ecall short inside whole = 4 * counts.LEAN_TRANSFER_WORDS
lean_size calls other ecall short inside whole = kind_size calls other ecall whole

-- that of a place, where it is in a leaf or in none
abbrev pub size_by : GraphVersion → Option (List ℕ) → Bool → Item → Bool → ℕ
size_by OneLabel calls inside item whole = kind_size calls item.kind (is_ecall item) whole
size_by TwoLabels calls inside item whole = kind_size calls item.kind (is_ecall item) whole
size_by CalleeSaves calls inside item whole = lean_size calls item.kind (is_ecall item) (is_short item) inside whole

abbrev pub size_of : Entered → ℕ → Item → Bool → ℕ
size_of of k item whole = size_by of.closed.version of.closed.calls (in_leaf of k) item whole

-- whether the unit of a place has its whole size; beyond the end of the flags each has
abbrev pub whole_at : List Bool → ℕ → Bool
whole_at whole k = slice_index_or whole k true

-- the address of a place's unit, which AUIPC reads: its gate, or behind the words there
abbrev pub word_of : Entered → List ℕ → ℕ → ℕ
word_of of gates k = slice_index gates k + lead_size of k

-- the words of the places from index k on
unfoldable pub words_from : Entered → ℕ → List ℕ → List ℕ
words_from of k [] = []
words_from of k (gate ∷ gates) = (gate + lead_size of k) ∷ words_from of (k + 1) gates

-- places from index k on have these gates, the first at an address and each next one behind the unit before it
unfoldable pub AreGates : Entered → List Bool → ℕ → ℕ → List Item → List ℕ → Type 0
AreGates of whole k at [] [] = Unit {0}
AreGates of whole k at (item ∷ items) (gate ∷ gates) =
    (gate ≡ at) × AreGates of whole (k + 1) (at + lead_size of k + size_of of k item (whole_at whole k)) items gates
AreGates of whole k at items gates = ⊥

-- the gates of a placement of a program's first places, with some units short, whose first unit stands at an address and whose later
-- members of groups may be those
abbrev pub IsLegal : ℕ → Entered → List Item → List ℕ → Type 0
IsLegal from of items gates =
    (whole : List Bool) × AreGates of whole 0 from items gates × AreGroups (λ k. slice_index_or items k no_item) (bounds_in of) (whole_at whole)
