use Rattle.std.proofs.Common.{◌≤◌, ◌-◌, length}
use Rattle.cfi_starts.specs.Leaves.{ArePast}
use Rattle.cfi_starts.proofs.leaves.line_of.Given as goal

abbrev pub invariant-loop-low : goal.invariant-loop-low
invariant-loop-low l = record { within : l.high ≤ length l.graph.lines; before : ArePast l.graph.lines l.low l.address }

abbrev pub decreases-loop-low : goal.decreases-loop-low
decreases-loop-low l = l.high - l.low
