use Rattle.std.proofs.Common.{◌≡◌, ℕ, ◌<◌, Bool}
use Rattle.cfi_flow.specs.Below.{where_below}
use Rattle.cfi_flow.proofs.below.where_below.Given as goal

abbrev pub invariant-loop-k : goal.invariant-loop-k
invariant-loop-k g l = (p : ℕ → Bool) → ((k : ℕ) (holds : Bool) → k < l.n → goal.F-post g l.test k holds → holds ≡ p k)
    → l.found.items ≡ where_below p l.k
