use Rattle.std.proofs.Common.{ℕ, ◌<◌, false}
use Rattle.least.proofs.first.first_below_u64.Given as goal

abbrev pub invariant-loop-number : goal.invariant-loop-number
invariant-loop-number g l = (j : ℕ) → j < l.number → goal.F-post g l.test j false
