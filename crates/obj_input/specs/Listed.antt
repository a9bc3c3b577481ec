-- What a function gives for 0, 1, .. below a bound, one after another.
use Rattle.std.specs.Prelude.{ℕ, zero, suc, List, [], ◌∷◌, ◌++◌}

unfoldable pub listed : {A : Type 0} → (ℕ → A) → ℕ → List A
listed given zero = []
listed given (suc n) = listed given n ++ given n ∷ []
