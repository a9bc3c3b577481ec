-- The place that is next is told by its gate. What is past the last place is entered by nothing, so no words stand before it.
use Rattle.std.proofs.Common.{◌≡◌, ℕ, suc, ◌%◌, ◌^◌, ◌<◌, ◌≤◌, ◌==◌, inl, inr, Bool, true, false, List, [], ◌∷◌, Option, Some, None, refl, sym, ap, subst, ◌∙◌, arith}
use Rattle.std.specs.Prelude.{IfSome, slice_get}
use Rattle.std.specs.List.{list_any}
use Rattle.std.proofs.lemmas.Bool.{and_left, cases_lt, eqb-true, false_from_ne_true, or_cases}
use Rattle.std.proofs.lemmas.List.{get_or_past}
use Rattle.std.proofs.lemmas.Option.{get_or_from_slice_get, slice_get_within}
use Rattle.rv_image.proofs.Profiles.{laid_out}
use Rattle.cfi_meaning.proofs.Prelude.{Item, count, item_of, no_item, has, is_target, is_target_of, aims_at, call_target, is_call_target, is_called, is_entry, entered_in, gate, word, IsAccepted, Choice, gate_of}
use Rattle.cfi_leads.proofs.Called.{call_inside}
use Rattle.cfi_writer.proofs.Entering.{call_targets, no_lead}
use Rattle.cfi_writer.proofs.Gates.{gates_counted}
use Rattle.cfi_writer.proofs.SideLabels.{is_in}
use Rattle.cfi_writer.proofs.Standing.{gate_lies, gates_rise}

-- where a test holds of some of a list, it does at an index
some_index : {A : Type 0} (p : A → Bool) (xs : List A) → list_any p xs ≡ true → (i : ℕ) × (x : A) × (slice_get xs i ≡ Some x) × (p x ≡ true)
some_index p [] some = absurd (cc)
some_index p (x ∷ xs) some =
    elim (or_cases (p x) (list_any p xs) some) [
      | inl here ↦ (0, x, refl, here)
      | inr later ↦ let (i, y, get, holds) = some_index p xs later in (suc i, y, get, holds)
    ]

aims_to : (k : ℕ) (o : Option ℕ) → aims_at k o ≡ true → o ≡ Some k
aims_to k None aims = absurd (cc)
aims_to k (Some t) aims = ap Some (eqb-true t k aims)

module _ (m : Choice) (ok : IsAccepted m) where
  target_below : (k : ℕ) → is_target m.layout.closed.sides k ≡ true → k < count m.layout.program
  target_below k target =
      let (j, side, there, inside) = some_index (is_target_of k) m.layout.closed.sides target in
      let (c, class, at, member) = some_index (has k) side.classes inside in
      ok.members j c k side there (is_in side.classes c k class at member)

  called_below : (k : ℕ) → is_called m.layout.program k ≡ true → k < count m.layout.program
  called_below k called =
      let (i, item, get, aims) = some_index (λ (item : Item). aims_at k (call_target item)) m.layout.program.items called in
      let below = slice_get_within m.layout.program.items i item get in
      let same : item_of m.layout.program i ≡ item = get_or_from_slice_get m.layout.program.items i item no_item get in
      subst (λ (o : Option ℕ). IfSome o (λ (t : ℕ). t < count m.layout.program)) (ap call_target same ∙ aims_to k (call_target item) aims)
      (call_inside m.layout.program i (count m.layout.program) ok.sound below refl)

  entry_below : (k : ℕ) → is_entry (entered_in m.layout) k ≡ true → k < count m.layout.program
  entry_below k entry =
      elim (or_cases (k == m.layout.entry) _ entry) [
        | inl first ↦ subst (λ (j : ℕ). j < count m.layout.program) (sym (eqb-true k m.layout.entry first)) ok.entry_there
        | inr reached ↦ elim (or_cases (is_called m.layout.program k) (is_call_target m.layout.closed.sides k) reached) [
          | inl called ↦ called_below k called
          | inr serves ↦ target_below k (call_targets m.layout.closed.sides k serves)
        ]
      ]

  past_gate : (k : ℕ) → count m.layout.program ≤ k → gate m.layout k ≡ 0
  past_gate k past = let counted = gates_counted m ok in get_or_past m.layout.gates k 0 (omega arith)

  pub past_word : (k : ℕ) → count m.layout.program ≤ k → word m.layout k ≡ gate m.layout k
  past_word k past =
      let untargeted : is_target m.layout.closed.sides k ≡ false =
      false_from_ne_true (is_target m.layout.closed.sides k) (λ target. let below = target_below k target in omega arith) in
      let other : is_entry (entered_in m.layout) k ≡ false =
      false_from_ne_true (is_entry (entered_in m.layout) k) (λ entry. let below = entry_below k entry in omega arith) in
      let none = no_lead (entered_in m.layout) k untargeted (and_left (is_entry (entered_in m.layout) k) _ other) in
      omega arith

  -- where a run goes on is the address of an instruction
  pub gate_fits : (next : Option ℕ) → (gate_of m.layout next % 2 ≡ 0) × (gate_of m.layout next < 2 ^ 64)
  gate_fits None =
      let laid = laid_out m.layout.profile ok.profile in
      let behind = laid.closing in
      let high = laid.high in
      let round = laid.round in
      (omega arith, omega arith)
  gate_fits (Some k) =
      elim (cases_lt k (count m.layout.program)) [
        | inl below ↦ let (from, to, round) = gate_lies m ok k below in (omega arith, omega arith)
        | inr past ↦ let none = past_gate k past in (omega arith, omega arith)
      ]

  same_gate : (i j : ℕ) → i < count m.layout.program → j < count m.layout.program → gate m.layout i ≡ gate m.layout j → i ≡ j
  same_gate i j one other same =
      elim (cases_lt i j) [
        | inl less ↦ let rises = gates_rise m ok i j less other in absurd (omega arith)
        | inr most ↦ elim (cases_lt j i) [
          | inl more ↦ let rises = gates_rise m ok j i more one in absurd (omega arith)
          | inr least ↦ omega arith
        ]
      ]

  pub next_is : (next : Option ℕ) (j : ℕ) → j < count m.layout.program → gate_of m.layout next ≡ gate m.layout j → next ≡ Some j
  next_is None j below same =
      let laid = laid_out m.layout.profile ok.profile in
      let behind = laid.closing in
      let lies = gate_lies m ok j below in
      let from = lies.0 in
      absurd (omega arith)
  next_is (Some i) j below same =
      elim (cases_lt i (count m.layout.program)) [
        | inl less ↦ ap Some (same_gate i j less below same)
        | inr past ↦
            let none = past_gate i past in
            let laid = laid_out m.layout.profile ok.profile in
            let low = laid.low in
            let lies = gate_lies m ok j below in
            let from = lies.0 in
            absurd (omega arith)
      ]
