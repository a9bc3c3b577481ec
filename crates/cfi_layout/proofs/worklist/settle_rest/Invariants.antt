use Rattle.std.proofs.Common.{◌≡◌, ◌+◌, ◌*◌, ◌<◌, ◌≤◌, length}
use Rattle.std.specs.List.{All}
use Rattle.cfi_layout.specs.Lengthening.{short_count, StayOnWay}
use Rattle.cfi_layout.proofs.worklist.settle_rest.Given as goal

abbrev pub invariant-loop-index : goal.invariant-loop-index
invariant-loop-index l = record {
  long : length l.long.items ≡ length l.initial.long.items;
  still : length l.distances.items ≡ length l.initial.distances.items;
  indexes : All (λ i. i < length l.branches) l.work.items;
  way : StayOnWay l.branches l.initial.long.items l.initial.distances.items l.long.items l.distances.items;
  no_more : short_count l.long.items ≤ short_count l.initial.long.items;
}

-- each branch that is made long adds no more than there are branches
abbrev pub decreases-loop-index : goal.decreases-loop-index
decreases-loop-index l = short_count l.long.items * (length l.branches + 1) + length l.work.items
