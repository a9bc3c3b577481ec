use Rattle.std.proofs.Common.{◌+◌, ◌-◌, ◌≤◌, length}
use Rattle.cfi_class.proofs.LabelsGiven.{Given}
use Rattle.cfi_class.proofs.label.given.Given as goal

abbrev pub invariant-loop-next : goal.invariant-loop-next
invariant-loop-next l = record {
  given : Given l.used l.labels.items l.next l.at;
  asked : length l.labels.items ≤ l.count;
}

abbrev pub decreases-loop-next : goal.decreases-loop-next
decreases-loop-next l = (l.count - length l.labels.items) + (length l.used - l.at)
