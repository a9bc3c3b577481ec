use Rattle.std.proofs.Common.{◌≡◌, ℕ, ◌<◌, length}
use Rattle.std.specs.Prelude.{slice_index}
use Rattle.cfi_writer.specs.Chosen.{labels_before}
use Rattle.cfi_writer.proofs.numbering.label_starts.Given as goal

abbrev pub invariant-loop-side : goal.invariant-loop-side
invariant-loop-side l = record {
  many : length l.starts.items ≡ l.side-index;
  next_is : l.next ≡ labels_before l.closed.sides l.side-index;
  each : (i : ℕ) → i < l.side-index → slice_index l.starts.items i ≡ labels_before l.closed.sides i;
}
