-- A number in a list of system calls, by the test that finds it.
use Rattle.std.proofs.Common.{◌≡◌, ◌==◌, ℕ, Bool, List, [], ◌∷◌, refl, ap}
use Rattle.std.specs.Prelude.{◌||◌}
use Rattle.std.specs.List.{list_any}
use Rattle.rv_word.specs.Numbers.{is_listed}

pub listed_any : (number : ℕ) (calls : List ℕ) → list_any (λ n. n == number) calls ≡ is_listed number calls
listed_any number [] = refl
listed_any number (n ∷ calls) = ap (λ (b : Bool). (n == number) || b) (listed_any number calls)
