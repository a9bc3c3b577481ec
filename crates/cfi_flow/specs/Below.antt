-- The numbers below a bound that meet a test, rising.
use Rattle.std.specs.Prelude.{ℕ, zero, suc, Bool, if◌then◌else◌, List, [], ◌∷◌, ◌++◌}

unfoldable pub where_below : (ℕ → Bool) → ℕ → List ℕ
where_below test zero = []
where_below test (suc n) = where_below test n ++ (if test n then n ∷ [] else [])
