-- Lists that a loop builds from what a function gives for 0, 1, .., and their members.
use Rattle.std.proofs.Common.{◌≡◌, ℕ, zero, suc, ◌+◌, ◌<◌, get_or, List, [], ◌∷◌, ◌++◌, length, inl, inr, refl, ap, ◌∙◌, sym, add-one, arith}
use Rattle.std.proofs.lemmas.Bool.{cases_lt}
use Rattle.std.proofs.lemmas.List.{append-nil, get_or_append_left, length-append}
use Rattle.std.proofs.Math.Seq.{get_or-append_seam}
use Rattle.obj_items.proofs.Prelude.{joined, listed}

module _ {A : Type 0} (given : ℕ → A) where
  pub listed_begins : [] ≡ listed given 0
  unfolding listed
  listed_begins = refl

  pub listed_next : (k : ℕ) (so_far next : List A) (x : A) → so_far ≡ listed given k → x ≡ given k → next ≡ so_far ++ x ∷ [] → next ≡ listed given (k + 1)
  unfolding listed
  listed_next k so_far next x here is e = rw (add-one, ← here, ← is) e

  listed_length : (n : ℕ) → length (listed given n) ≡ n
  unfolding listed
  listed_length zero = refl
  listed_length (suc n) = let before = listed_length n in let both = length-append (listed given n) (given n ∷ []) in omega arith

  listed_at : (n k : ℕ) (d : A) → k < n → get_or (listed given n) k d ≡ given k
  unfolding listed
  listed_at zero k d below = absurd (omega arith)
  listed_at (suc n) k d below = elim (cases_lt k n) [
    | inl less ↦
        let inside : k < length (listed given n) = let size = listed_length n in omega arith in
        get_or_append_left (listed given n) (given n ∷ []) d k inside ∙ listed_at n k d less
    | inr most ↦
        let last : k ≡ length (listed given n) = let size = listed_length n in omega arith in
        let same : k ≡ n = omega arith in
        ap (λ i. get_or (listed given n ++ given n ∷ []) i d) last ∙ get_or-append_seam (listed given n) (given n) [] d ∙ ap given (sym same)
  ]

  -- a list that was built so has so many members, and each is what the function gives
  pub listed_count : (xs : List A) (n : ℕ) → xs ≡ listed given n → length xs ≡ n
  listed_count xs n e = ap length e ∙ listed_length n

  pub listed_read : (xs : List A) (n k : ℕ) (d : A) → xs ≡ listed given n → k < n → get_or xs k d ≡ given k
  listed_read xs n k d e below = ap (λ (ys : List A). get_or ys k d) e ∙ listed_at n k d below

module _ {A : Type 0} (parts : ℕ → List A) where
  pub joined_begins : [] ≡ joined parts 0
  unfolding joined
  joined_begins = refl

  pub joined_next : (k : ℕ) (so_far next part : List A) → so_far ≡ joined parts k → part ≡ parts k → next ≡ so_far ++ part → next ≡ joined parts (k + 1)
  unfolding joined
  joined_next k so_far next part here is e = rw (add-one, ← here, ← is) e

  pub joined_passed : (k : ℕ) (so_far : List A) → so_far ≡ joined parts k → [] ≡ parts k → so_far ≡ joined parts (k + 1)
  unfolding joined
  joined_passed k so_far here is = here ∙ sym (append-nil (joined parts k)) ∙ ap (λ (ys : List A). joined parts k ++ ys) is ∙ rw add-one refl
