-- Words of private contracts: the taken places as rising lists.
use Rattle.std.specs.Prelude.{◌≡◌, ℕ, Bool, ◌&&◌, List, length}
use Rattle.cfi_flow.specs.declared.points.Points.{Points}
use Rattle.cfi_flow.specs.Below.{where_below}
use Rattle.cfi_flow.specs.Kept.{mark_at}

abbrev pub is_start : List Bool → List Bool → ℕ → Bool
is_start taken begun t = mark_at taken t && mark_at begun t

-- the taken places at which functions begin, and all
pub record ArePoints (taken begun : List Bool) (points : Points) : Type 0 where
  pub starts : points.starts.items ≡ where_below (is_start taken begun) (length taken)
  pub all : points.taken.items ≡ where_below (mark_at taken) (length taken)
