use Rattle.std.proofs.Common.{◌≡◌, ℕ, ◌<◌, Option}
use Rattle.least.specs.Least.{least_below}
use Rattle.least.proofs.numbers.least_below.Given as goal

abbrev pub invariant-loop-index : goal.invariant-loop-index
invariant-loop-index g l =
    (f : ℕ → Option ℕ) → ((j : ℕ) (one : Option ℕ) → j < l.n → goal.F-post g l.given j one → one ≡ f j) → l.least ≡ least_below f l.index
