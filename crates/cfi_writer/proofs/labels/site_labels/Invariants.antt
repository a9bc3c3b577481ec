use Rattle.std.proofs.Common.{◌≡◌, ℕ, length, drop}
use Rattle.std.specs.Prelude.{slice_index}
use Rattle.cfi_writer.proofs.Prelude.{site_label, labels_before}
use Rattle.cfi_writer.proofs.labels.site_labels.Given as goal

abbrev pub invariant-loop-j : goal.invariant-loop-j
invariant-loop-j l =
    (length l.table.items ≡ l.places)
    × ((k : ℕ) → slice_index l.table.items k ≡ site_label (drop (labels_before l.closed.sides l.j) l.labels) (drop l.j l.closed.sides) k)
