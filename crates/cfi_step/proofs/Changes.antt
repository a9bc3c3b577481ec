-- Changes that are made one after the other.
use Rattle.std.proofs.Common.{◌≡◌, ℕ, ◌+◌, ◌<◌, List, [], ◌∷◌, ◌++◌, length, drop, get_or, map, refl, add-one, drop-cons, append_assoc}
use Rattle.std.specs.List.{AllByRecursion}
use Rattle.rv_code.specs.Run.{IsDataChange, disturbed}
use Rattle.rv_code.specs.State.{Shared}
use Rattle.cfi_script.specs.Plan.{change_of, changes_of}

module _ (xs : List (ℕ × ℕ)) (i : ℕ) (d : ℕ × ℕ) (below : i < length xs) where
  left : drop i xs ≡ get_or xs i d ∷ drop (i + 1) xs
  left = rw add-one (drop-cons xs i d below)

  pub shared_next : (s after : Shared) → after ≡ disturbed s (change_of (get_or xs i d) ∷ []) → disturbed after (changes_of (drop (i + 1) xs)) ≡ disturbed s (changes_of (drop i xs))
  shared_next s after e = rw (e, left) refl

  pub made_next : {A : Type 0} (f : ℕ × ℕ → A) (made after : List A) → after ≡ made ++ f (get_or xs i d) ∷ [] → after ++ map f (drop (i + 1) xs) ≡ made ++ map f (drop i xs)
  made_next f made after e = rw (e, left) (append_assoc made (f (get_or xs i d) ∷ []) (map f (drop (i + 1) xs)))

  pub allowed_next : IsDataChange (change_of (get_or xs i d)) → AllByRecursion IsDataChange (changes_of (drop (i + 1) xs)) → AllByRecursion IsDataChange (changes_of (drop i xs))
  allowed_next one later = rw left (one, later)
