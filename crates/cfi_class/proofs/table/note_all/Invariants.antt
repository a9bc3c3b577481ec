use Rattle.std.proofs.Common.{◌≡◌, ℕ, length, take}
use Rattle.cfi_class.specs.Classes.{has}
use Rattle.cfi_class.specs.Tables.{entry, noted}
use Rattle.cfi_class.proofs.table.note_all.Given as goal

abbrev pub invariant-loop-place : goal.invariant-loop-place
invariant-loop-place l =
    (length l.table.items ≡ length l.initial.table.items)
    × ((k : ℕ) → entry l.table.items k ≡ noted (entry l.initial.table.items k) (has k (take l.place-index l.places)) l.n)
