-- What is kept beside a choice while its code and graph are written. Only private contracts cite this.
use Rattle.std.specs.Prelude.{◌≡◌, ℕ, zero, suc, ◌+◌, ◌≤◌, ◌<◌, ◌^◌, if◌then◌else◌, Option, Some, None, List, [], ◌∷◌, length, slice_index}
use Rattle.rv_instr.specs.declared.instr.Instr.{Instr}
use Rattle.obj_program.specs.Program.{is_end, item_of}
use Rattle.cfi_closed.specs.Closed.{Side}
use Rattle.cfi_map.specs.LabelOf.{class_count, site_label}
use Rattle.cfi_writer.specs.Accepted.{IsAccepted}
use Rattle.cfi_writer.specs.Units.{Choice, instr_of}

-- how many labels the sides before one have
unfoldable pub labels_before : List Side → ℕ → ℕ
labels_before [] j = 0
labels_before (side ∷ sides) zero = 0
labels_before (side ∷ sides) (suc j) = class_count side + labels_before sides j

-- of each side the index of its first label, and then how many labels there are
pub record AreStarts (sides : List Side) (starts : List ℕ) : Type 0 where
  pub many : length starts ≡ length sides + 1
  pub each : (j : ℕ) → j ≤ length sides → slice_index starts j ≡ labels_before sides j

-- the instruction of a place; none at a section's end
abbrev pub instr_if : Choice → ℕ → Option Instr
instr_if m k = if is_end (item_of m.layout.program k).kind then None else Some (instr_of m k)

-- a choice that is accepted, where the labels of its sides begin, and of each place the label that its site asks for
pub record IsChosen (m : Choice) (starts sites : List ℕ) : Type 0 where
  pub accepted : IsAccepted m
  pub starts_are : AreStarts m.layout.closed.sides starts
  pub sites_are : (k : ℕ) → slice_index sites k ≡ site_label m.labels m.layout.closed.sides k
  pub sites_small : (k : ℕ) → slice_index sites k < 2 ^ 20
