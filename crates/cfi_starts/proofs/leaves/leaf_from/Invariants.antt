use Rattle.std.proofs.Common.{◌-◌}
use Rattle.cfi_starts.specs.Leaves.{ArePast}
use Rattle.cfi_starts.proofs.leaves.leaf_from.Given as goal

abbrev pub invariant-loop-index : goal.invariant-loop-index
invariant-loop-index l = ArePast l.graph.lines l.index l.address

abbrev pub decreases-loop-index : goal.decreases-loop-index
decreases-loop-index l = l.count - l.index
