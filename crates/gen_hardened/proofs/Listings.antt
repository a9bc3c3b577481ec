-- Lists that a function gives for 0, 1, ..: their members, and when they are a list with each member changed.
use Rattle.std.proofs.Common.{◌≡◌, ℕ, zero, suc, ◌<◌, ◌≤◌, get_or, List, [], ◌∷◌, ◌++◌, length, map, inl, inr, refl, sym, ap, ◌∙◌, arith}
use Rattle.std.proofs.lemmas.Bool.{cases_lt}
use Rattle.std.proofs.lemmas.List.{ext_get_or, get_or-map, get_or_append_left, get_or_past, length-append, length-map}
use Rattle.std.proofs.Math.Seq.{get_or-append_seam}
use Rattle.gen_hardened.proofs.Prelude.{joined, listed}

module _ {A : Type 0} (given : ℕ → A) where
  pub length-listed : (n : ℕ) → length (listed given n) ≡ n
  unfolding listed
  length-listed zero = refl
  length-listed (suc n) = let before = length-listed n in let both = length-append (listed given n) (given n ∷ []) in omega arith

  pub listed_at : (n k : ℕ) (d : A) → k < n → get_or (listed given n) k d ≡ given k
  unfolding listed
  listed_at zero k d below = absurd (omega arith)
  listed_at (suc n) k d below = elim (cases_lt k n) [
    | inl less ↦
        let inside : k < length (listed given n) = let size = length-listed n in omega arith in
        get_or_append_left (listed given n) (given n ∷ []) d k inside ∙ listed_at n k d less
    | inr most ↦
        let last : k ≡ length (listed given n) = let size = length-listed n in omega arith in
        let same : k ≡ n = omega arith in
        ap (λ i. get_or (listed given n ++ given n ∷ []) i d) last ∙ get_or-append_seam (listed given n) (given n) [] d ∙ ap given (sym same)
  ]

  pub listed_past : (n k : ℕ) (d : A) → n ≤ k → get_or (listed given n) k d ≡ d
  listed_past n k d past = get_or_past (listed given n) k d (let size = length-listed n in omega arith)

  -- each is what another function makes of the list's member at that index
  pub listed_map : {B : Type 0} (f : B → A) (xs : List B) (d : B) → ((k : ℕ) → k < length xs → given k ≡ f (get_or xs k d))
      → listed given (length xs) ≡ map f xs
  listed_map f xs d each =
      let size = length-listed (length xs) in
      let mapped = length-map xs f in
      ext_get_or (given 0) (listed given (length xs)) (map f xs) (omega arith)
      (λ k below.
      let inside : k < length xs = omega arith in
      listed_at (length xs) k (given 0) inside ∙ each k inside ∙ sym (get_or-map f xs k d (given 0) inside))

  -- lists of one member each, after an empty one, one after another
  pub joined_listed : (parts : ℕ → List A) (n : ℕ) → parts 0 ≡ [] → ((k : ℕ) → k < n → parts (suc k) ≡ given k ∷ []) → joined parts (suc n) ≡ listed given n
  unfolding joined listed
  joined_listed parts zero none one = none
  joined_listed parts (suc n) none one = rw (joined_listed parts n none (λ k below. one k (omega arith)), one n (omega arith)) refl

-- empty lists one after another
pub joined_none : {A : Type 0} (parts : ℕ → List A) (n : ℕ) → ((k : ℕ) → k < n → parts k ≡ []) → joined parts n ≡ []
unfolding joined
joined_none parts zero none = refl
joined_none parts (suc n) none = rw (joined_none parts n (λ k below. none k (omega arith)), none n (omega arith)) refl
