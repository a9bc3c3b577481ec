-- What stands behind a place's unit where it goes on, and where a branch or a jump leads: a place of the same kind, which is in the same leaf if
-- that is in one. A later store is in the piece of the first store of its group.
use Rattle.std.proofs.Common.{◌≡◌, ℕ, zero, suc, ◌+◌, ◌≤◌, ◌<◌, inl, inr, Bool, true, false, Some, refl, sym, ap, subst, ◌∙◌, arith}
use Rattle.std.specs.Prelude.{◌||◌}
use Rattle.std.proofs.lemmas.Bool.{cases_Bool, cases_lt, eq-eqb, eqb-true, false_from_ne_true, true≢false}
use Rattle.cfi_writer.proofs.Prelude.{ItemKind, count, is_end, item_of, is_target, Entered, is_entry, begins, edge_target, ends_before, head, in_leaf, is_leaf, entered_in, gate, word, is_store, after_unit, IsAccepted, Choice, behind, is_later_at, unit_here}
use Rattle.obj_input.specs.declared.item_kind.ItemKind.TheVariants as is
use Rattle.cfi_leads.proofs.Tables.{head_of_first}
use Rattle.cfi_writer.proofs.CodeRoom.{target_entered}
use Rattle.cfi_writer.proofs.Entering.{entry_entered}
use Rattle.cfi_writer.proofs.Grouping.{entered_first, later_behind, later_below, later_store, other_first}
use Rattle.cfi_writer.proofs.LeafStarts.{next_below}
use Rattle.cfi_writer.proofs.LeanUnits.{ends_both, ends_end, stores_go_on}
use Rattle.cfi_writer.proofs.Pieces.{ends_there, head_same, last_there, stays_there}
use Rattle.cfi_writer.proofs.Standing.{gate_after}

pub end_stores_none : (kind : ItemKind) → is_end kind ≡ true → is_store kind ≡ false
end_stores_none is.End ends = refl
end_stores_none other ends = absurd (cc)

-- the place behind a place's unit
pub record IsNext (m : Choice) (k : ℕ) : Type 0 where
  pub below : k + (behind m k + 1) < count m.layout.program
  pub after : after_unit (unit_here m k) (word m.layout k) ≡ gate m.layout (k + (behind m k + 1))
  pub kind : in_leaf (entered_in m.layout) (k + (behind m k + 1)) ≡ in_leaf (entered_in m.layout) k
  pub piece : in_leaf (entered_in m.layout) k ≡ true → head (entered_in m.layout) (k + (behind m k + 1)) ≡ head (entered_in m.layout) k

module _ (m : Choice) (ok : IsAccepted m) where
  abbrev of : Entered
  of = entered_in m.layout

  abbrev kind_at : ℕ → ItemKind
  kind_at k = (item_of m.layout.program k).kind

  -- no piece begins at a later store
  pub begins_first : (k : ℕ) → begins of k ≡ true → is_later_at m k ≡ false
  begins_first k first =
      elim (cases_Bool (is_end (kind_at k))) [
        | inl ends ↦ other_first m k (end_stores_none (kind_at k) ends)
        | inr other ↦
            elim (cases_Bool (is_entry of k)) [
              | inl entry ↦ entered_first m ok.groups k (entry_entered of k entry)
              | inr no_entry ↦
                  let rest : (is_end (kind_at k) || (is_entry of k || is_target of.closed.sides k)) ≡ is_target of.closed.sides k =
                  ap (λ (b : Bool). b || (is_entry of k || is_target of.closed.sides k)) other ∙ ap (λ (b : Bool). b || is_target of.closed.sides k) no_entry in
                  entered_first m ok.groups k (target_entered m k (sym rest ∙ first))
            ]
      ]

  group_piece : (k i : ℕ) → i ≤ behind m k → head of (k + i) ≡ head of k
  group_piece k zero most = let start : k + 0 ≡ k = omega arith in ap (head of) start
  group_piece k (suc i) most =
      let next : k + suc i ≡ k + i + 1 = omega arith in
      let later : is_later_at m (k + i + 1) ≡ true = subst (λ (j : ℕ). is_later_at m j ≡ true) next (later_behind m k (suc i) (omega arith) most) in
      let none : begins of (k + i + 1) ≡ false =
      false_from_ne_true (begins of (k + i + 1)) (λ first. true≢false (sym later ∙ begins_first (k + i + 1) first)) in
      ap (head of) next ∙ head_same of (k + i) none ∙ group_piece k i (omega arith)

  -- the last one of a group that goes on does so too
  last_goes_on : (k : ℕ) → ends_before (kind_at k) ≡ false → ends_before (kind_at (k + behind m k)) ≡ false
  last_goes_on k on =
      elim (cases_lt 0 (behind m k)) [
        | inl some ↦ stores_go_on (kind_at (k + behind m k)) (later_store m (k + behind m k) (later_behind m k (behind m k) (omega arith) (omega arith))).0
        | inr none ↦
            let here : k ≡ k + behind m k = omega arith in
            ap (λ (j : ℕ). ends_before (kind_at j)) (sym here) ∙ on
      ]

  last_below : (k : ℕ) → k < count m.layout.program → k + behind m k < count m.layout.program
  last_below k below =
      elim (cases_lt 0 (behind m k)) [
        | inl some ↦ later_below m (k + behind m k) (later_behind m k (behind m k) (omega arith) (omega arith))
        | inr none ↦ omega arith
      ]

  -- behind a place that goes on stands one of its kind
  next_inside : (j : ℕ) → j < count m.layout.program → ends_before (kind_at j) ≡ false → in_leaf of j ≡ true → head of (j + 1) ≡ head of j
  next_inside j below on inside =
      head_same of j
      (false_from_ne_true (begins of (j + 1))
      (λ first. true≢false (sym (ends_both (kind_at j) (last_there of (head of j) inside j below refl first)) ∙ on)))

  next_outside : (j : ℕ) → j < count m.layout.program → ends_before (kind_at j) ≡ false → in_leaf of j ≡ false → in_leaf of (j + 1) ≡ false
  next_outside j below on outside =
      elim (cases_Bool (begins of (j + 1))) [
        | inl first ↦
            false_from_ne_true (in_leaf of (j + 1))
            (λ inside.
            let leaf : is_leaf of (j + 1) ≡ true = ap (is_leaf of) (sym (head_of_first of (j + 1) first)) ∙ inside in
            true≢false (sym (ends_there of (j + 1) leaf j below refl) ∙ on))
        | inr same ↦ ap (is_leaf of) (head_same of j same) ∙ outside
      ]

  pub next_there : (k : ℕ) → k < count m.layout.program → is_later_at m k ≡ false → ends_before (kind_at k) ≡ false → IsNext m k
  next_there k below first on =
      let j = k + behind m k in
      let next : k + behind m k + 1 ≡ k + (behind m k + 1) = omega arith in
      let last = last_below k below in
      let goes = last_goes_on k on in
      let more = next_below m ok (k + behind m k) last (ends_end (kind_at (k + behind m k)) goes) in
      let there : k + (behind m k + 1) < count m.layout.program = omega arith in
      let piece = group_piece k (behind m k) (omega arith) in
      record {
        below = there;
        after = sym (gate_after m ok k first there);
        kind = elim (cases_Bool (in_leaf of k)) [
          | inl inside ↦
              let mine : in_leaf of (k + behind m k) ≡ true = ap (is_leaf of) piece ∙ inside in
              ap (λ (i : ℕ). in_leaf of i) (sym next) ∙ ap (is_leaf of) (next_inside (k + behind m k) last goes mine ∙ piece)
          | inr outside ↦
              let mine : in_leaf of (k + behind m k) ≡ false = ap (is_leaf of) piece ∙ outside in
              ap (λ (i : ℕ). in_leaf of i) (sym next) ∙ next_outside (k + behind m k) last goes mine ∙ sym outside
        ];
        piece = λ inside.
            let mine : in_leaf of (k + behind m k) ≡ true = ap (is_leaf of) piece ∙ inside in
            ap (head of) (sym next) ∙ next_inside (k + behind m k) last goes mine ∙ piece;
      }

  -- a branch or a jump leads to a place of its kind, in its leaf if it is in one
  pub edge_inside : (k t : ℕ) → k < count m.layout.program → edge_target (item_of m.layout.program k) ≡ Some t → in_leaf of k ≡ true → head of t ≡ head of k
  edge_inside k t below some inside =
      eqb-true (head of t) (head of k) (sym (stays_there of (head of k) inside k t below some) ∙ eq-eqb (head of k) (head of k) refl)

  pub edge_outside : (k t : ℕ) → k < count m.layout.program → edge_target (item_of m.layout.program k) ≡ Some t → in_leaf of k ≡ false → in_leaf of t ≡ false
  edge_outside k t below some outside =
      false_from_ne_true (in_leaf of t)
      (λ inside.
      let here = stays_there of (head of t) inside k t below some ∙ eq-eqb (head of t) (head of t) refl in
      let same = eqb-true (head of k) (head of t) here in
      true≢false (sym inside ∙ ap (is_leaf of) (sym same) ∙ outside))
