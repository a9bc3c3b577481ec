use Rattle.std.proofs.Common.{◌≡◌, ℕ, ◌<◌, Option}
use Rattle.least.specs.declared.place.Found.{Found}
use Rattle.least.specs.Nearest.{nearest_below}
use Rattle.least.proofs.place.nearest_below.Given as goal

abbrev pub invariant-loop-index : goal.invariant-loop-index
invariant-loop-index g l =
    (f : ℕ → Option (Found g.row.T.Denot)) → ((j : ℕ) (one : Option (Found g.row.T.Denot)) → j < l.n → goal.F-post g l.given j one → one ≡ f j) → l.least ≡ nearest_below (λ (x : Found g.row.T.Denot). x.place) f l.index
