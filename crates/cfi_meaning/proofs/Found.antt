-- The place that a computed transfer goes to has its destination as gate, and the site may go there.
use Rattle.std.proofs.Common.{◌≡◌, ℕ, ◌==◌, inl, inr, true, false, List, length, Some, None, sym, ap, subst, ◌∙◌}
use Rattle.std.specs.Prelude.{nat_lt, slice_index}
use Rattle.std.specs.List.{position_or_len}
use Rattle.std.specs.Option.{is_none}
use Rattle.std.proofs.lemmas.Bool.{eqb-true, ltb-true}
use Rattle.std.proofs.lemmas.List.Sums.{passes_at_first}
use Rattle.std.proofs.lemmas.Option.{option_and_then_some, same_Some}
use Rattle.rv_word.proofs.Cases.{cases_Option, chosen}
use Rattle.cfi_meaning.proofs.Prelude.{Registers, Instr, ProgramAtMap, gate, computed, computed_place, if_reached, place_with_gate, class_reaches}

pub record IsFound (g : ProgramAtMap) (k v t : ℕ) : Type 0 where
  pub gate_is : gate g t ≡ v
  pub reaches : class_reaches g.closed k t ≡ true

gate_found : (gates : List ℕ) (v t : ℕ) → place_with_gate gates v ≡ Some t → slice_index gates t ≡ v
gate_found gates v t e =
    elim (chosen (nat_lt (position_or_len (λ (x : ℕ). x == v) gates) (length gates)) (Some (position_or_len (λ (x : ℕ). x == v) gates)) None (Some t) e) [
      | inl found ↦
          let same : position_or_len (λ (x : ℕ). x == v) gates ≡ t = same_Some _ t found.1 in
          let passes = passes_at_first (λ (x : ℕ). x == v) gates 0 (ltb-true _ _ found.0) in
          subst (λ (i : ℕ). slice_index gates i ≡ v) same (eqb-true _ v passes)
      | inr none ↦ let wrong : None ≡ Some t = none.1 in absurd (cc)
    ]

reached : (g : ProgramAtMap) (k v s t : ℕ) → gate g s ≡ v → if_reached g.closed k s ≡ Some t → IsFound g k v t
reached g k v s t gate_is e =
    elim (chosen (class_reaches g.closed k s) (Some s) None (Some t) e) [
      | inl found ↦
          let same : s ≡ t = same_Some s t found.1 in
          subst (λ (x : ℕ). IsFound g k v x) same (record { gate_is = gate_is; reaches = found.0 })
      | inr none ↦ let wrong : None ≡ Some t = none.1 in absurd (cc)
    ]

pub place_found : (g : ProgramAtMap) (k : ℕ) (i : Instr) (r : Registers) (t : ℕ) → computed_place g k i r ≡ Some t → IsFound g k (computed i r) t
place_found g k i r t e =
    option_and_then_some {P = IsFound g k (computed i r) t} (if_reached g.closed k) (place_with_gate g.gates (computed i r)) t e
    (λ s from of. reached g k (computed i r) s t (gate_found g.gates (computed i r) s from) of)

pub some_found : (g : ProgramAtMap) (k : ℕ) (i : Instr) (r : Registers) → is_none (computed_place g k i r) ≡ false →
    (t : ℕ) × (computed_place g k i r ≡ Some t)
some_found g k i r e =
    elim (cases_Option (computed_place g k i r)) [
      | inl none ↦ let wrong : true ≡ false = sym (ap is_none none) ∙ e in absurd (cc)
      | inr (t, some) ↦ (t, some)
    ]
