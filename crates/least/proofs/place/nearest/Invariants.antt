use Rattle.std.proofs.Common.{◌≡◌, ℕ, Option, Some, take}
use Rattle.std.specs.Prelude.{slice_get}
use Rattle.std.specs.List.{filter_map}
use Rattle.least.specs.declared.place.Found.{Found}
use Rattle.least.specs.Nearest.{nearest}
use Rattle.least.proofs.place.nearest.Given as goal

abbrev pub invariant-loop-x : goal.invariant-loop-x
invariant-loop-x g l =
    (f : g.row.X.Denot → Option (Found g.row.T.Denot)) → ((k : ℕ) (x : g.row.X.Denot) (one : Option (Found g.row.T.Denot)) → slice_get l.items k ≡ Some x → goal.F-post g l.given x one → one ≡ f x)
    → l.least ≡ nearest (λ (y : Found g.row.T.Denot). y.place) (filter_map f (take l.x-index l.items))
