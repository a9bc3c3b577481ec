use Rattle.std.proofs.Common.{ℕ, ◌<◌, false}
use Rattle.least.proofs.first.first_below.Given as goal

abbrev pub invariant-loop-index : goal.invariant-loop-index
invariant-loop-index g l = (j : ℕ) → j < l.index → goal.F-post g l.test j false
