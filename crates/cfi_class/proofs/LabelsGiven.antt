-- Labels given so far, and the next number to try, where the numbers in use stand in order.
use Rattle.std.proofs.Common.{◌≡◌, ℕ, ◌+◌, ◌<◌, ◌≤◌, List, [], ◌∷◌, ◌++◌, length, take, get_or, inl, inr, refl, subst, length-append, arith}
use Rattle.std.specs.List.{All, Contains}
use Rattle.std.specs.List.Sorted.{IsNonDecreasing, IsPermutation, IsStrictlyIncreasing}
use Rattle.std.proofs.lemmas.List.Sorted.{IsPermutation-sym, Contains-permutation}
use Rattle.std.proofs.Math.Seq.{take-append_seam}
use Rattle.std.proofs.lemmas.List.{take-append-le, get_or_default, get_or_append_left, get_or_push}
use Rattle.std.proofs.lemmas.Bool.{cases_lt}
use Rattle.std.proofs.lemmas.List.Elements.{All-push, All-weaker, All-nil, Contains-append_left, Contains-push, Contains-get_or}
use Rattle.cfi_class.proofs.Indexes.{rising_push}
use Rattle.cfi_class.specs.Labels.{IsTaken, AreLabels}

-- the first `at` numbers in use lie below `next`, and each number from 1 on below `next` is taken
pub record Given (used labels : List ℕ) (next at : ℕ) : Type 0 where
  pub within : at ≤ length used
  pub room : next ≤ 1 + length labels + at
  pub from_one : 1 ≤ next
  pub past : (k : ℕ) → k < at → get_or used k 0 < next
  pub full : (n : ℕ) → 1 ≤ n → n < next → IsTaken used labels n
  pub below : All (λ label. label < next) labels
  pub least : AreLabels used labels
  pub rising : IsStrictlyIncreasing labels

pub none_given : (used : List ℕ) → Given used [] 1 0
none_given used = record {
  within = omega arith;
  room = omega arith;
  from_one = omega arith;
  past = λ k h. absurd (omega arith);
  full = λ n h k. absurd (omega arith);
  below = All-nil _;
  least = λ k h. absurd (omega arith);
  rising = λ k h. absurd (omega arith);
}

-- a number in use that lies below
pub pass_lower : (used labels : List ℕ) (next at : ℕ) → Given used labels next at → at < length used → get_or used at 0 < next → Given used labels next (at + 1)
pass_lower used labels next at g h low = record {
  within = omega arith;
  room = omega (arith, g.room);
  from_one = g.from_one;
  past = λ k lt. elim (cases_lt k at) [
    | inl before ↦ g.past k before
    | inr there ↦ let e : k ≡ at = omega arith in rw e low
  ];
  full = g.full;
  below = g.below;
  least = g.least;
  rising = g.rising;
}

-- the next number is in use
pub pass_equal : (used labels : List ℕ) (next at : ℕ) → Given used labels next at → at < length used → get_or used at 0 ≡ next → Given used labels (next + 1) (at + 1)
pass_equal used labels next at g h same = record {
  within = omega arith;
  room = omega (arith, g.room);
  from_one = omega (arith, g.from_one);
  past = λ k lt. elim (cases_lt k at) [
    | inl before ↦ omega (arith, g.past k before)
    | inr there ↦ let e : k ≡ at = omega arith in rw (e, same) (omega arith)
  ];
  full = λ n one lt. elim (cases_lt n next) [
    | inl before ↦ g.full n one before
    | inr there ↦ let e : next ≡ n = omega arith in inl (subst (λ (m : ℕ). Contains used m) e (subst (λ (m : ℕ). Contains used m) same (Contains-get_or used at 0 h)))
  ];
  below = All-weaker (λ label. label < next) (λ label. label < next + 1) (λ x lt. omega arith) labels g.below;
  least = g.least;
  rising = g.rising;
}

-- the numbers in use from `at` on lie above `next`
abbrev pub IsAbove : List ℕ → ℕ → ℕ → Type 0
IsAbove used at next = (k : ℕ) → at ≤ k → k < length used → next < get_or used k 0

free_next : (used labels : List ℕ) (next at : ℕ) → Given used labels next at → IsAbove used at next → IsTaken used labels next → ⊥
free_next used labels next at g above (inl (k, lt, e)) =
    let e0 = get_or_default used k next 0 lt in
    elim (cases_lt k at) [
      | inl before ↦ omega (arith, g.past k before, e0, e)
      | inr after ↦ omega (arith, above k after lt, e0, e)
    ]
free_next used labels next at g above (inr (k, lt, e)) = omega (arith, g.below k next lt, e)

-- the next number is given
pub give : (used labels : List ℕ) (next at : ℕ) → Given used labels next at → IsAbove used at next → Given used (labels ++ next ∷ []) (next + 1) at
give used labels next at g above = record {
  within = g.within;
  room = omega (arith, g.room, length-append labels (next ∷ []));
  from_one = omega (arith, g.from_one);
  past = λ k lt. omega (arith, g.past k lt);
  full = λ n one lt. elim (cases_lt n next) [
    | inl before ↦ elim (g.full n one before) [
      | inl old ↦ inl old
      | inr earlier ↦ inr (Contains-append_left labels (next ∷ []) n earlier)
    ]
    | inr there ↦ let e : next ≡ n = omega arith in inr (subst (λ (m : ℕ). Contains (labels ++ next ∷ []) m) e (Contains-push labels next))
  ];
  below = All-push (λ label. label < next + 1) labels next (All-weaker (λ label. label < next) (λ label. label < next + 1) (λ x lt. omega arith) labels g.below) (omega arith);
  least = λ k lt. elim (cases_lt k (length labels)) [
    | inl before ↦ rw (take-append-le k labels (next ∷ []) (omega arith), get_or_append_left labels (next ∷ []) 0 k before) (g.least k before)
    | inr there ↦
        let e : k ≡ length labels = omega (arith, lt, length-append labels (next ∷ [])) in
        rw (e, take-append_seam labels (next ∷ []), get_or_push labels next 0 (length labels) refl) (record {
          from_one = g.from_one;
          free = free_next used labels next at g above;
          least = g.full;
        })
  ];
  rising = rising_push labels next g.rising g.below;
}

same_taken : (used others earlier : List ℕ) (n : ℕ) → IsPermutation used others → IsTaken others earlier n → IsTaken used earlier n
same_taken used others earlier n p (inl c) =
    inl (Contains-permutation others used n (IsPermutation-sym used others p) c)
same_taken used others earlier n p (inr c) = inr c

-- the order of the numbers in use says nothing
pub in_any_order : (used others labels : List ℕ) → IsPermutation used others → AreLabels others labels → AreLabels used labels
in_any_order used others labels p are = λ k lt.
    let one = are k lt in
    record {
      from_one = one.from_one;
      free = λ t. one.free (same_taken others used (take k labels) _ (IsPermutation-sym used others p) t);
      least = λ n from below. same_taken used others (take k labels) n p (one.least n from below);
    }

pub above_first : (used : List ℕ) (at next : ℕ) → IsNonDecreasing used → next < get_or used at 0 → IsAbove used at next
above_first used at next order h = λ k le lt. omega (arith, order at k 0 le lt, h)

pub above_none : (used : List ℕ) (at next : ℕ) → length used ≤ at → IsAbove used at next
above_none used at next h = λ k le lt. absurd (omega arith)
