-- The turns of steps by harts: how one more step changes them, and whose turn it is after so many steps.
use Rattle.std.proofs.Common.{◌≡◌, ◌==◌, ℕ, suc, ◌-◌, if◌then◌else◌, List, [], ◌∷◌, ◌++◌, length, refl, sym, ◌∙◌, ap, arith, inl, inr, append_assoc}
use Rattle.std.proofs.lemmas.Bool.{cases_Bool, cases_eq, cases_lt, eq-eqb, le-ltb, lt-ltb, ne_eqb}
use Rattle.cfi_script.specs.Turns.{Turns, hart_in_turn, turns_of, with_turn}

-- one more step after these turns
abbrev pub push_turn : Turns → ℕ → Turns
push_turn [] h = (h, 1) ∷ []
push_turn (t ∷ []) h = if t.0 == h then (t.0, suc t.1) ∷ [] else t ∷ (h, 1) ∷ []
push_turn (t ∷ u ∷ turns) h = t ∷ push_turn (u ∷ turns) h

-- a step before and a step after may be put in either order
with_both : (g h : ℕ) (turns : Turns) → with_turn g (push_turn turns h) ≡ push_turn (with_turn g turns) h
with_both g h [] = refl
with_both g h (t ∷ []) =
    elim (cases_eq t.0 h) [
      | inl own ↦ elim (cases_eq g t.0) [
        | inl same ↦ rw (eq-eqb t.0 h own, eq-eqb g t.0 same) (rw (eq-eqb g h (same ∙ own)) refl)
        | inr other ↦ rw (eq-eqb t.0 h own, ne_eqb g t.0 other) (rw (eq-eqb t.0 h own) refl)
      ]
      | inr next ↦ elim (cases_eq g t.0) [
        | inl same ↦ rw (ne_eqb t.0 h next, eq-eqb g t.0 same) (rw (ne_eqb g h (λ e. next (sym same ∙ e))) refl)
        | inr other ↦ rw (ne_eqb t.0 h next, ne_eqb g t.0 other) (rw (ne_eqb t.0 h next) refl)
      ]
    ]
with_both g h (t ∷ u ∷ turns) = elim (cases_Bool (g == t.0)) [ inl same ↦ rw same refl | inr other ↦ rw other refl ]

pub turns_pushed : (front : List ℕ) (h : ℕ) → push_turn (turns_of front) h ≡ turns_of (front ++ h ∷ [])
unfolding turns_of
turns_pushed [] h = refl
turns_pushed (g ∷ front) h = sym (with_both g h (turns_of front)) ∙ ap (with_turn g) (turns_pushed front h)

-- the last turn alone changes
push_last : (ended : Turns) (t : ℕ × ℕ) (h : ℕ) → push_turn (ended ++ t ∷ []) h ≡ ended ++ push_turn (t ∷ []) h
push_last [] t h = refl
push_last (u ∷ []) t h = refl
push_last (u ∷ v ∷ ended) t h = ap (λ turns. u ∷ turns) (push_last (v ∷ ended) t h)

-- a step by the hart whose turn goes on, and one by another
pub turn_grows : (harts : List ℕ) (ended : Turns) (h steps : ℕ) → turns_of harts ≡ ended ++ (h, steps) ∷ [] → turns_of (harts ++ h ∷ []) ≡ ended ++ (h, suc steps) ∷ []
turn_grows harts ended h steps e =
    let last : push_turn ((h, steps) ∷ []) h ≡ (h, suc steps) ∷ [] = rw (eq-eqb h h refl) refl in
    sym (turns_pushed harts h) ∙ ap (λ turns. push_turn turns h) e ∙ push_last ended (h, steps) h ∙ ap (λ turns. ended ++ turns) last

pub turn_changes : (harts : List ℕ) (ended : Turns) (g h steps : ℕ) → (h ≡ g → ⊥) → turns_of harts ≡ ended ++ (g, steps) ∷ []
    → turns_of (harts ++ h ∷ []) ≡ turns_of harts ++ (h, 1) ∷ []
turn_changes harts ended g h steps other e =
    let last : push_turn ((g, steps) ∷ []) h ≡ (g, steps) ∷ (h, 1) ∷ [] = rw (ne_eqb g h (λ same. other (sym same))) refl in
    sym (turns_pushed harts h) ∙ ap (λ turns. push_turn turns h) e ∙ push_last ended (g, steps) h ∙ ap (λ turns. ended ++ turns) last
    ∙ sym (append_assoc ended ((g, steps) ∷ []) ((h, 1) ∷ [])) ∙ ap (λ turns. turns ++ (h, 1) ∷ []) (sym e)

-- whose turn it is at first, where one more step comes before these turns
first_turn : (h : ℕ) (turns : Turns) → hart_in_turn (with_turn h turns) 0 ≡ h
unfolding hart_in_turn
first_turn h [] = refl
first_turn h (t ∷ turns) =
    elim (cases_eq h t.0) [
      | inl same ↦ rw (eq-eqb h t.0 same, lt-ltb 0 (suc t.1) (omega arith)) refl
      | inr other ↦ rw (ne_eqb h t.0 other) refl
    ]

-- and later
later_turn : (h : ℕ) (turns : Turns) (step : ℕ) → hart_in_turn (with_turn h turns) (suc step) ≡ hart_in_turn turns step
unfolding hart_in_turn
later_turn h [] step = rw (le-ltb (suc step) 1 (omega arith)) refl
later_turn h (t ∷ turns) step =
    elim (cases_eq h t.0) [
      | inl same ↦ elim (cases_lt step t.1) [
        | inl less ↦ rw (eq-eqb h t.0 same, lt-ltb (suc step) (suc t.1) (omega arith), lt-ltb step t.1 less) same
        | inr more ↦
            let left : suc step - suc t.1 ≡ step - t.1 = omega arith in
            rw (eq-eqb h t.0 same, le-ltb (suc step) (suc t.1) (omega arith), le-ltb step t.1 more, left) refl
      ]
      | inr other ↦
          let left : suc step - 1 ≡ step = omega arith in
          rw (ne_eqb h t.0 other, le-ltb (suc step) 1 (omega arith), left) refl
    ]

-- after as many steps as stand before a step, it is the turn of its hart
pub hart_here : (front : List ℕ) (h : ℕ) (rest : List ℕ) → hart_in_turn (turns_of (front ++ h ∷ rest)) (length front) ≡ h
unfolding turns_of
hart_here [] h rest = first_turn h (turns_of rest)
hart_here (g ∷ front) h rest = later_turn g (turns_of (front ++ h ∷ rest)) (length front) ∙ hart_here front h rest
