-- A step that goes on leaves pending sites that have room, of which none comes back into a leaf: behind a call stands none.
use Rattle.std.proofs.Common.{◌≡◌, ℕ, suc, ◌+◌, ◌<◌, ◌≤◌, inl, inr, true, false, List, [], ◌∷◌, length, Option, Some, None, refl, sym, ap, subst, ◌∙◌, arith}
use Rattle.std.specs.List.{AllByRecursion}
use Rattle.std.proofs.lemmas.Bool.{cases_Bool, false_from_ne_true, true≢false}
use Rattle.std.proofs.lemmas.Option.{same_Some}
use Rattle.cfi_meaning.proofs.Prelude.{Instr, ItemKind, count, item_of, Entered, begins, ends_before, head, in_leaf, is_leaf, may_stand, ProgramAtMap, entered_in, Source, acts, returns_from, MOST_PENDING, is_outside, sites_at, sites_now, sites_of, makes_call}
use Rattle.rv_instr.specs.declared.instr.Instr.TheVariants as I
use Rattle.obj_input.specs.declared.item_kind.ItemKind.TheVariants as is
use Rattle.cfi_leads.proofs.Tables.{head_of_first}
use Rattle.cfi_writer.proofs.Pieces.{ends_there, head_same, stands_there}
use Rattle.cfi_meaning.proofs.KindTame.{NoReason, room_of_kind}

-- what holds of the pending sites of each state of a run
pub record Fits (g : ProgramAtMap) (st : Source) : Type 0 where
  pub room : length (sites_now g st) ≤ MOST_PENDING
  pub outside : AllByRecursion (is_outside g) st.pending

-- of a state to which a step leads, and that a return comes back to no leaf
pub record GoesFit (g : ProgramAtMap) (kind : ItemKind) (next : Source) : Type 0 where
  pub fits : Fits g next
  pub back : kind ≡ is.Return → (j : ℕ) → next.place ≡ Some j → is_outside g j

-- no call stands in a leaf, and from none the next place is reached without it
call_goes_on : (kind : ItemKind) → makes_call kind ≡ true → ends_before kind ≡ false
call_goes_on is.Call makes = refl
call_goes_on is.Icall makes = refl
call_goes_on kind makes = absurd (cc)

no_call_stands : (kind : ItemKind) (o : Option Instr) → makes_call kind ≡ true → may_stand kind o ≡ false
no_call_stands is.Call o makes = refl
no_call_stands is.Icall o makes = refl
no_call_stands kind o makes = absurd (cc)

behind_call : (of : Entered) (k : ℕ) → k < count of.program → makes_call (item_of of.program k).kind ≡ true → in_leaf of (k + 1) ≡ true → ⊥
behind_call of k below makes inside =
    elim (cases_Bool (begins of (k + 1))) [
      | inl first ↦
          let leaf : is_leaf of (k + 1) ≡ true = ap (is_leaf of) (sym (head_of_first of (k + 1) first)) ∙ inside in
          true≢false (sym (ends_there of (k + 1) leaf k below refl) ∙ call_goes_on (item_of of.program k).kind makes)
      | inr same ↦
          let leaf : is_leaf of (head of k) ≡ true = ap (is_leaf of) (sym (head_same of k same)) ∙ inside in
          true≢false (sym (stands_there of (head of k) leaf k below refl) ∙ no_call_stands (item_of of.program k).kind _ makes)
    ]

pub call_outside : (g : ProgramAtMap) (k : ℕ) → k < count g.program → makes_call (item_of g.program k).kind ≡ true → is_outside g (k + 1)
call_outside g k below makes leaves = false_from_ne_true (in_leaf (entered_in g) (k + 1)) (behind_call (entered_in g) k below makes)

module _ (g : ProgramAtMap) where
  room_at : (place : Option ℕ) (pending : List ℕ) → length (sites_of g pending) ≤ MOST_PENDING → length (sites_at g place pending) ≤ MOST_PENDING
  room_at None pending room = omega arith
  room_at (Some k) pending room = room

  fits_at : (st : Source) → length (sites_of g st.pending) ≤ MOST_PENDING → AllByRecursion (is_outside g) st.pending → Fits g st
  fits_at st room outside = record { room = room_at st.place st.pending room; outside = outside }

  returned : (pending : List ℕ) (st : Source) → length (sites_of g pending) ≤ MOST_PENDING → AllByRecursion (is_outside g) pending →
      AllByRecursion (is_outside g) st.pending → GoesFit g is.Return (returns_from pending st).state
  returned [] st room outside all = record {
    fits = record { room = omega arith; outside = all };
    back = λ same j none. let wrong : None ≡ Some j = none in absurd (cc);
  }
  returned (k ∷ pending) st room outside all = record {
    fits = record { room = omega arith; outside = outside.1 };
    back = λ same j at. subst (is_outside g) (same_Some k j at) outside.0;
  }

  module _ (k : ℕ) (st : Source) (room : length (sites_of g st.pending) ≤ MOST_PENDING) (outside : AllByRecursion (is_outside g) st.pending) where
    called : (next : Source) → length (sites_of g st.pending) < MOST_PENDING → is_outside g (k + 1) → next.pending ≡ (k + 1) ∷ st.pending → Fits g next
    called next more out is =
        let counted : length (sites_of g next.pending) ≡ suc (length (sites_of g st.pending)) = ap (λ (pending : List ℕ). length (sites_of g pending)) is in
        fits_at next (omega arith) (subst (AllByRecursion (is_outside g)) (sym is) (out, outside))

    stays : (next : Source) → next.pending ≡ st.pending → Fits g next
    stays next is =
        fits_at next (subst (λ (pending : List ℕ). length (sites_of g pending) ≤ MOST_PENDING) (sym is) room) (subst (AllByRecursion (is_outside g)) (sym is) outside)

    pub acts_fit : (kind : ItemKind) (i : Instr) (target : ℕ) → NoReason g k kind i st → (makes_call kind ≡ true → is_outside g (k + 1)) →
        GoesFit g kind (acts g k kind i target st).state
    acts_fit is.Return i target no_reason out = returned st.pending st room outside outside
    acts_fit is.Call i target no_reason out =
        record { fits = called _ (room_of_kind g k st is.Call i no_reason refl) (out refl) refl; back = λ same j at. absurd (cc) }
    acts_fit is.Icall i target no_reason out =
        record { fits = called _ (room_of_kind g k st is.Icall i no_reason refl) (out refl) refl; back = λ same j at. absurd (cc) }
    acts_fit is.Branch (I.Branch op rs1 rs2 imm) target no_reason out = record { fits = stays _ refl; back = λ same j at. absurd (cc) }
    acts_fit kind i target no_reason out = record { fits = stays _ refl; back = λ same j at. absurd (cc) }
