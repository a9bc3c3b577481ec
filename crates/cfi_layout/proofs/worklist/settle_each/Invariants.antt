use Rattle.std.proofs.Common.{◌≡◌, ◌<◌, length}
use Rattle.std.specs.List.{All}
use Rattle.cfi_layout.proofs.Passing.{Passing}
use Rattle.cfi_layout.proofs.worklist.settle_each.Given as goal

abbrev pub invariant-loop-index : goal.invariant-loop-index
invariant-loop-index l = record {
  passing : Passing l.branches l.initial.long.items l.initial.distances.items l.long.items l.distances.items l.changed l.index;
  long : length l.long.items ≡ length l.initial.long.items;
  still : length l.distances.items ≡ length l.initial.distances.items;
  indexes : All (λ i. i < length l.branches) l.work.items;
}
