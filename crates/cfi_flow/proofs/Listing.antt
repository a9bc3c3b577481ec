-- Lists that grow by an element, and the numbers below a bound that meet a test.
use Rattle.std.proofs.Common.{◌≡◌, ℕ, zero, suc, ◌+◌, ◌<◌, Bool, true, false, List, [], ◌∷◌, ◌++◌, length, get_or, inl, inr, refl, sym, subst, arith, add-one}
use Rattle.std.specs.List.{All}
use Rattle.std.proofs.Math.ListN.{get_or-append}
use Rattle.std.proofs.Math.Seq.{get_or-append_seam}
use Rattle.std.proofs.lemmas.Bool.{cases_lt, cases_Bool}
use Rattle.std.proofs.lemmas.List.{append-nil, length-append}
use Rattle.cfi_flow.specs.Below.{where_below}

pub all_none : {X : Type 0} (P : X → Type 0) → All P []
all_none P k d below = absurd (omega arith)

-- what holds of each and of one more
pub all_with : {X : Type 0} (P : X → Type 0) (xs : List X) (x : X) → All P xs → P x → All P (xs ++ x ∷ [])
all_with P xs x all here k d below = elim (cases_lt k (length xs)) [
  | inl less ↦ subst P (sym (get_or-append xs (x ∷ []) d k less)) (all k d less)
  | inr more ↦
      let last : k ≡ length xs = omega (arith, length-append xs (x ∷ [])) in
      subst (λ (n : ℕ). P (get_or (xs ++ x ∷ []) n d)) (sym last) (subst P (sym (get_or-append_seam xs x [] d)) here)
]

pub below_begins : (test : ℕ → Bool) (xs : List ℕ) → xs ≡ [] → xs ≡ where_below test 0
unfolding where_below
below_begins test xs e = e

pub below_member : (test : ℕ → Bool) (n : ℕ) (xs : List ℕ) → xs ≡ where_below test n → test n ≡ true
    → xs ++ n ∷ [] ≡ where_below test (n + 1)
unfolding where_below
below_member test n xs e holds = rw (add-one, holds, e) refl

pub below_passed : (test : ℕ → Bool) (n : ℕ) (xs : List ℕ) → xs ≡ where_below test n → test n ≡ false → xs ≡ where_below test (n + 1)
unfolding where_below
below_passed test n xs e fails = rw (add-one, fails, e) (sym (append-nil (where_below test n)))

-- tests that agree below the bound find the same
pub below_same : (p q : ℕ → Bool) (n : ℕ) → ((k : ℕ) → k < n → p k ≡ q k) → where_below p n ≡ where_below q n
unfolding where_below
below_same p q zero same = refl
below_same p q (suc n) same = rw (below_same p q n (λ k less. same k (omega arith)), same n (omega arith)) refl

-- each number that is found is below the bound and meets the test
pub below_all : (P : ℕ → Type 0) (p : ℕ → Bool) (n : ℕ) → ((k : ℕ) → k < n → p k ≡ true → P k) → All P (where_below p n)
unfolding where_below
below_all P p zero holds = all_none P
below_all P p (suc n) holds =
    let before = below_all P p n (λ k less at. holds k (omega arith) at) in
    elim (cases_Bool (p n)) [
      | inl at ↦ rw at (all_with P (where_below p n) n before (holds n (omega arith) at))
      | inr fails ↦ rw (fails, append-nil) before
    ]
