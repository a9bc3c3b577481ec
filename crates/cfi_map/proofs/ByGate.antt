-- Gates that rise: a place is found by its gate, behind those of lesser ones.
use Rattle.std.proofs.Common.{◌≡◌, ◌==◌, ℕ, zero, suc, ◌+◌, ◌<◌, ◌≤◌, nat_lt, true, false, List, length, Some, None, inl, inr, refl, sym, subst, arith}
use Rattle.std.specs.Prelude.{slice_index}
use Rattle.std.specs.List.Sorted.{IsPartitionedBy, IsStrictlyIncreasing}
use Rattle.std.proofs.lemmas.Bool.{cases_eq, cases_lt, eqb-true, false_from_ne_true, lt-ltb, ltb-true, le-ltb}
use Rattle.std.proofs.lemmas.List.{get_or_default}
use Rattle.std.proofs.lemmas.List.Quantifiers.{position-Some}
use Rattle.std.proofs.lemmas.List.Sums.{position_or_len_is}
use Rattle.cfi_map.specs.Untame.{place_with_gate}

pub rises : (gates : List ℕ) → IsStrictlyIncreasing gates → (i j : ℕ) → i < j → j < length gates → slice_index gates i < slice_index gates j
rises gates rising i zero less below = absurd (omega arith)
rises gates rising i (suc j) less below =
    let same : j + 1 ≡ suc j = omega arith in
    let step : slice_index gates j < slice_index gates (suc j) =
    subst (λ (n : ℕ). slice_index gates j < slice_index gates n) same (rising j (omega arith)) in
    elim (cases_eq i j) [
      | inl here ↦ subst (λ (n : ℕ). slice_index gates n < slice_index gates (suc j)) (sym here) step
      | inr other ↦ let before = rises gates rising i j (omega arith) (omega arith) in omega arith
    ]

module _ (gates : List ℕ) (rising : IsStrictlyIncreasing gates) (address : ℕ) where
  pub parted : IsPartitionedBy (λ (g : ℕ). nat_lt g address) gates
  parted i j d low below holds =
      let inside : i < length gates = omega arith in
      let at : slice_index gates j < address =
      subst (λ (g : ℕ). g < address) (get_or_default gates j d 0 below) (ltb-true _ _ holds) in
      let less : slice_index gates i < address = elim (cases_eq i j) [
        | inl same ↦ subst (λ (n : ℕ). slice_index gates n < address) (sym same) at
        | inr other ↦ let up = rises gates rising i j (omega arith) below in omega arith
      ] in
      lt-ltb _ _ (subst (λ (g : ℕ). g < address) (sym (get_or_default gates i d 0 inside)) less)

  not_there : (k : ℕ) → (slice_index gates k ≡ address → ⊥) → (slice_index gates k == address) ≡ false
  not_there k apart = false_from_ne_true (slice_index gates k == address) (λ e. apart (eqb-true _ _ e))

  module _ (k : ℕ) (bound : k ≤ length gates) (before : (i : ℕ) → i < k → slice_index gates i < address) where
    pub place_is : k < length gates → (slice_index gates k == address) ≡ true → Some k ≡ place_with_gate gates address
    place_is below there =
        let is = position_or_len_is (λ (g : ℕ). g == address) gates k 0 bound
        (λ i less. not_there i (λ e. let low = before i less in absurd (omega arith)))
        (λ less. there) in
        rw (is, lt-ltb k (length gates) below) refl

    pub no_place : ((i : ℕ) → k ≤ i → i < length gates → address ≤ slice_index gates i)
        → (k < length gates → (slice_index gates k == address) ≡ false) → None ≡ place_with_gate gates address
    no_place from other =
        let is = position_or_len_is (λ (g : ℕ). g == address) gates (length gates) 0 (omega arith)
        (λ i inside. elim (cases_lt i k) [
          | inl less ↦ not_there i (λ e. let low = before i less in absurd (omega arith))
          | inr more ↦ elim (cases_eq k i) [
            | inl same ↦ subst (λ (n : ℕ). (slice_index gates n == address) ≡ false) same (other (omega arith))
            | inr past ↦ not_there i (λ e.
                let up = rises gates rising k i (omega arith) inside in
                let low = from k (omega arith) (omega arith) in
                absurd (omega arith))
          ]
        ])
        (λ less. absurd (omega arith)) in
        rw (is, le-ltb (length gates) (length gates) (omega arith)) refl

-- what is found is a place
pub place_below : (gates : List ℕ) (address k : ℕ) → place_with_gate gates address ≡ Some k → k < length gates
place_below gates address k some = (position-Some (λ (g : ℕ). g == address) gates k 0 some).0
