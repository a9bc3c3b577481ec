use Rattle.std.proofs.Common.{◌≡◌, ◌≤◌, ◌+◌, drop, length}
use Rattle.cfi_map.specs.LabelOf.{empty_classes}
use Rattle.cfi_writer.proofs.numbering.empty_classes.Given as goal

abbrev pub invariant-loop-k : goal.invariant-loop-k
invariant-loop-k l = record {
  few : l.count ≤ l.k;
  counted : l.count + length (empty_classes (drop l.k l.side.sites)) ≡ length (empty_classes l.side.sites);
}
