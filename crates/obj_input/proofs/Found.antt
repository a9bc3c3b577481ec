-- An offset is among some exactly where a search among them in order finds it.
use Rattle.std.proofs.Common.{◌≡◌, ℕ, zero, suc, ◌<◌, ◌≤◌, true, false, List, [], ◌∷◌, length, get_or, Result, Ok, Err, inl, inr, refl, sym, subst, arith}
use Rattle.std.specs.Prelude.{is_ok, MatchResult}
use Rattle.std.specs.List.Sorted.{IsNonDecreasing}
use Rattle.std.proofs.lemmas.Bool.{cases_lt, eq-eqb, ne_eqb, or_left, or_right, or_from}
use Rattle.obj_input.specs.InOrder.{has}

found : (xs : List ℕ) (at i : ℕ) → i < length xs → get_or xs i 0 ≡ at → has xs at ≡ true
found [] at i below is = absurd (omega arith)
found (x ∷ xs) at zero below is = or_left _ _ (eq-eqb x at is)
found (x ∷ xs) at (suc i) below is = or_right _ _ (found xs at i (omega arith) is)

nowhere : (xs : List ℕ) (at : ℕ) → ((k : ℕ) → k < length xs → get_or xs k 0 ≡ at → ⊥) → has xs at ≡ false
nowhere [] at none = refl
nowhere (x ∷ xs) at none = or_from _ _ (ne_eqb x at (λ same. none 0 (omega arith) same)) (nowhere xs at (λ k below is. none (suc k) (omega arith) is))

pub is_among : (xs : List ℕ) (at : ℕ) (r : Result ℕ ℕ)
    → MatchResult r (λ i. (i < length xs) × (get_or xs i 0 ≡ at))
    (λ i. (i ≤ length xs) × ((k : ℕ) → k < i → get_or xs k 0 < at) × ((k : ℕ) → i ≤ k → k < length xs → at < get_or xs k 0))
    → is_ok r ≡ has xs at
is_among xs at (Ok i) h = sym (found xs at i h.0 h.1)
is_among xs at (Err i) h =
    sym (nowhere xs at (λ k below is. elim (cases_lt k i) [
      | inl less ↦ let low = h.1 k less in omega arith
      | inr more ↦ let high = h.2 k more below in omega arith
    ]))

pub rises : (xs ys : List ℕ) → xs ≡ ys → IsNonDecreasing ys → (i j : ℕ) → i ≤ j → j < length xs → get_or xs i 0 ≤ get_or xs j 0
rises xs ys same in_order i j low high = subst (λ (zs : List ℕ). IsNonDecreasing zs) (sym same) in_order i j 0 low high
