use Rattle.std.proofs.Common.{◌≤◌, ◌-◌, length}
use Rattle.cfi_starts.proofs.leaves.heads_of.Given as goal

abbrev pub invariant-loop-low : goal.invariant-loop-low
invariant-loop-low l = record { within : l.high ≤ length l.graph.lines; order : l.low ≤ l.high }

abbrev pub decreases-loop-low : goal.decreases-loop-low
decreases-loop-low l = l.high - l.low
