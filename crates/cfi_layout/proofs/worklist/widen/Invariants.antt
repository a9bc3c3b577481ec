use Rattle.std.proofs.Common.{◌≡◌, ◌+◌, ◌<◌, ◌≤◌, length}
use Rattle.std.specs.List.{All}
use Rattle.cfi_layout.proofs.Widening.{Widening}
use Rattle.cfi_layout.proofs.worklist.widen.Given as goal

abbrev pub invariant-loop-i : goal.invariant-loop-i
invariant-loop-i l = record {
  widening : Widening l.branches l.part l.initial.distances.items l.distances.items l.i;
  counted : length l.distances.items ≡ length l.branches;
  indexes : All (λ i. i < length l.branches) l.work.items;
  few : length l.work.items ≤ length l.initial.work.items + l.i;
  within : l.i ≤ length l.branches;
}
