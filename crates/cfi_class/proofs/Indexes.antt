-- Targets by their index: what rises has each number once.
use Rattle.std.proofs.Common.{◌≡◌, ℕ, ◌+◌, ◌<◌, ◌≤◌, List, [], ◌∷◌, ◌++◌, length, length-append, get_or, inl, inr, refl, ◌∙◌, arith, Result}
use Rattle.std.specs.List.{All, Contains}
use Rattle.std.specs.List.Sorted.{IsStrictlyIncreasing, IsBinarySearchResult}
use Rattle.std.specs.Ordering.{nat_cmp}
use Rattle.std.specs.Result.{MatchResult}
use Rattle.std.proofs.lemmas.Bool.{cases_lt}
use Rattle.std.proofs.lemmas.List.{get_or_default, get_or_append_left, get_or_push}
use Rattle.std.proofs.lemmas.List.Kept.{AllPairs-from_increasing}
use Rattle.std.proofs.lemmas.List.Sorted.{searched}
use Rattle.std.proofs.lemmas.Result.{MatchResult-weaker}

pub one_index : (xs : List ℕ) → IsStrictlyIncreasing xs → (i j : ℕ) → i < length xs → j < length xs → get_or xs i 0 ≡ get_or xs j 0 → i ≡ j
one_index xs up i j hi hj e = elim (cases_lt i j) [
  | inl lt ↦ absurd (omega (arith, AllPairs-from_increasing xs up i j 0 lt hj, e))
  | inr ge ↦ elim (cases_lt j i) [
    | inl lt ↦ absurd (omega (arith, AllPairs-from_increasing xs up j i 0 lt hi, e))
    | inr le ↦ omega arith
  ]
]

non_decreasing : (xs : List ℕ) → IsStrictlyIncreasing xs → (i j : ℕ) → i ≤ j → j < length xs → get_or xs i 0 ≤ get_or xs j 0
non_decreasing xs up i j le lt = elim (cases_lt i j) [
  | inl below ↦ omega (arith, AllPairs-from_increasing xs up i j 0 below lt)
  | inr past ↦ let e : i ≡ j = omega arith in rw e (omega arith)
]

-- a binary search finds the one index of a number that is there
pub found : (xs : List ℕ) (x : ℕ) → IsStrictlyIncreasing xs → (r : Result ℕ ℕ) → IsBinarySearchResult (λ y. nat_cmp y x) xs r → Contains xs x →
    MatchResult r (λ k. (k < length xs) × (get_or xs k 0 ≡ x)) (λ k. ⊥)
found xs x up r h (i, lt, e) =
    let e0 : get_or xs i 0 ≡ x = get_or_default xs i 0 x lt ∙ e in
    MatchResult-weaker r (searched xs x r h (non_decreasing xs up)) (λ k p. p)
    (λ k p. elim (cases_lt i k) [
      | inl before ↦ omega (arith, p.1 i before, e0)
      | inr after ↦ omega (arith, p.2 i after lt, e0)
    ])

-- one number more, above all
pub rising_push : (xs : List ℕ) (x : ℕ) → IsStrictlyIncreasing xs → All (λ y. y < x) xs → IsStrictlyIncreasing (xs ++ x ∷ [])
rising_push xs x up below k lt = elim (cases_lt (k + 1) (length xs)) [
  | inl before ↦ rw (get_or_append_left xs (x ∷ []) 0 k (omega arith), get_or_append_left xs (x ∷ []) 0 (k + 1) before) (up k before)
  | inr there ↦
      let e : k + 1 ≡ length xs = omega (arith, lt, length-append xs (x ∷ [])) in
      rw (e, get_or_push xs x 0 (length xs) refl, get_or_append_left xs (x ∷ []) 0 k (omega arith)) (below k 0 (omega arith))
]
