-- A list of what a function gives: one number more, its members, and two lists that are one.
use Rattle.std.proofs.Common.{◌≡◌, ◌≢◌, ℕ, zero, suc, ◌+◌, ◌-◌, ◌<◌, List, [], ◌∷◌, ◌++◌, length, get_or, set, inl, inr, refl, ap, ◌∙◌, add-one, arith, length-append}
use Rattle.std.proofs.lemmas.Bool.{cases_lt}
use Rattle.std.proofs.lemmas.List.{get_or_append_left, get_or_push, set-append_left, set-append_right}
use Rattle.obj_input.specs.Listed.{listed}

pub listed_none : {A : Type 0} (given : ℕ → A) → listed given 0 ≡ []
unfolding listed
listed_none given = refl

pub listed_more : {A : Type 0} (given : ℕ → A) (n : ℕ) → listed given (n + 1) ≡ listed given n ++ given n ∷ []
unfolding listed
listed_more given n = rw add-one refl

pub listed_next : {A : Type 0} (given : ℕ → A) (n : ℕ) (so_far next : List A) (x : A) → so_far ≡ listed given n → x ≡ given n
    → next ≡ so_far ++ x ∷ [] → next ≡ listed given (n + 1)
listed_next given n so_far next x here is e = rw (listed_more given n, ← here, ← is) e

pub length-listed : {A : Type 0} (given : ℕ → A) (n : ℕ) → length (listed given n) ≡ n
unfolding listed
length-listed given zero = refl
length-listed given (suc n) = length-append (listed given n) (given n ∷ []) ∙ ap (λ (k : ℕ). k + 1) (length-listed given n) ∙ omega arith

pub listed_at : {A : Type 0} (given : ℕ → A) (n k : ℕ) (d : A) → k < n → get_or (listed given n) k d ≡ given k
unfolding listed
listed_at given zero k d below = absurd (omega arith)
listed_at given (suc n) k d below = elim (cases_lt k n) [
  | inl less ↦ let inside : k < length (listed given n) = rw (length-listed given n) less in
      get_or_append_left (listed given n) (given n ∷ []) d k inside ∙ listed_at given n k d less
  | inr most ↦
      let last : n ≡ k = omega arith in
      get_or_push (listed given n) (given n) d k (length-listed given n ∙ last) ∙ ap given last
]

-- the same of a list that is one
pub listed_in : {A : Type 0} (given : ℕ → A) (n k : ℕ) (d : A) (xs : List A) → xs ≡ listed given n → k < n → get_or xs k d ≡ given k
listed_in given n k d xs same below = ap (λ ys. get_or ys k d) same ∙ listed_at given n k d below

-- two functions that give the same below a bound
pub listed_same : {A : Type 0} (f g : ℕ → A) (n : ℕ) → ((k : ℕ) → k < n → f k ≡ g k) → listed f n ≡ listed g n
unfolding listed
listed_same f g zero same = refl
listed_same f g (suc n) same = rw (listed_same f g n (λ k below. same k (omega arith)), same n (omega arith)) refl

-- one member is another, and the others are the same
pub listed_set : {A : Type 0} (f g : ℕ → A) (n k : ℕ) (x : A) → k < n → x ≡ g k → ((j : ℕ) → j < n → j ≢ k → f j ≡ g j)
    → set (listed f n) k x ≡ listed g n
unfolding listed
listed_set f g zero k x below is same = absurd (omega arith)
listed_set f g (suc n) k x below is same = elim (cases_lt k n) [
  | inl less ↦
      let inside : k < length (listed f n) = rw (length-listed f n) less in
      let last : f n ≡ g n = same n (omega arith) (λ e. absurd (omega arith)) in
      set-append_left (listed f n) (f n ∷ []) k x inside
      ∙ rw (listed_set f g n k x less is (λ j small other. same j (omega arith) other), last) refl
  | inr most ↦
      let at : k ≡ n = omega arith in
      set-append_right (listed f n) (f n ∷ []) n k x (length-listed f n) most
      ∙ last (k - n) (omega arith) (is ∙ ap g at) (listed_same f g n (λ j small. same j (omega arith) (λ e. absurd (omega arith))))
] where
  last : (i : ℕ) → i ≡ 0 → x ≡ g n → listed f n ≡ listed g n → listed f n ++ set (f n ∷ []) i x ≡ listed g n ++ g n ∷ []
  last i e same_x same_list = rw (e, same_x, same_list) refl

-- what a loop needs whose invariant says that it has listed so many
pub ruleset listings = (listed_none, listed_more, length-listed)
