-- What a function gives for the numbers below a bound that meet a test, one number more.
use Rattle.std.proofs.Common.{◌≡◌, ℕ, ◌+◌, Bool, true, false, List, [], ◌∷◌, ◌++◌, map, refl, sym, add-one, append-nil}
use Rattle.std.proofs.lemmas.List.{map-append}
use Rattle.least.specs.Nearest.{joined}
use Rattle.obj_join.specs.Symbols.{number_if}

pub chosen_none : {A : Type 0} (test : ℕ → Bool) (f : ℕ → A) → map f (joined (number_if test) 0) ≡ []
unfolding joined
chosen_none test f = refl

module _ {A : Type 0} (test : ℕ → Bool) (f : ℕ → A) (n : ℕ) where
  pub chosen_next : (so_far : List A) (x : A) → so_far ≡ map f (joined (number_if test) n) → test n ≡ true → x ≡ f n
      → so_far ++ x ∷ [] ≡ map f (joined (number_if test) (n + 1))
  unfolding joined
  chosen_next so_far x here holds is =
      rw (add-one, holds, here, is) (sym (map-append f (joined (number_if test) n) (n ∷ [])))

  pub chosen_passed : (so_far : List A) → so_far ≡ map f (joined (number_if test) n) → test n ≡ false → so_far ≡ map f (joined (number_if test) (n + 1))
  unfolding joined
  chosen_passed so_far here fails = rw (add-one, fails, append-nil) here
