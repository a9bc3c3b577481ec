-- The steps of the stores of a whole group are the one step of the unit at its first place, behind which the machine comes to the state at the
-- next place.
use Rattle.std.proofs.Common.{◌≡◌, ℕ, suc, ◌+◌, ◌-◌, ◌^◌, ◌<◌, ◌≤◌, Bool, true, false, inl, inr, List, [], length, Some, refl, sym, ap, subst, ◌∙◌, arith}
use Rattle.std.specs.List.{range_with_len}
use Rattle.std.proofs.lemmas.Bool.{cases_Bool}
use Rattle.cfi_meaning.proofs.Prelude.{GraphVersion, OneLabel, TwoLabels, CalleeSaves, Contents, loaded, Registers, get_reg, Instr, Ran, count, item_of, has_leaves, gate, gate_to, word, base_of, is_short, Mask, Member, after_unit, mask_words, word_count, sum_of, field, level, IsPast, TellsLow, members_from, own_store, Own, OwnAfter, executes, own_step, words_along, IsTame, touched, Choice, behind, instr_of, is_later_at, low_at, mask_at, mask_by, member_at, member_for, offset_at, offset_of, unit_here, IsImageOf, IsPlace, ComesThrough, ComesToPlace, at_unit, shown, PlacesRun, TamePlace, at_word, base_value, holds_store, place_step}
use Rattle.rv_instr.specs.declared.instr.Instr.TheVariants as I
use Rattle.cfi_unit.specs.declared.unit.Unit as U
use Rattle.cfi_unit.specs.declared.unit.Unit.TheVariants as V
use Rattle.cfi_unit.proofs.Counts.{most_words}
use Rattle.cfi_runs.proofs.GroupPlaces.{IsStoreAt, group_step}
use Rattle.cfi_writer.proofs.GroupUnit.{IsStore, bases, inside, many, masked, most_members, store_at, short_by}
use Rattle.cfi_writer.proofs.LeanUnits.{stores_go_on}
use Rattle.cfi_writer.proofs.NextPlaces.{IsNext, next_there}
use Rattle.cfi_meaning.specs.PlaceLaws as law
use Rattle.cfi_meaning.proofs.GoesOn.{full_most, lean_most}
use Rattle.cfi_meaning.proofs.KindLands.{alike_lands}
use Rattle.cfi_meaning.proofs.KindStep.{store_step, stores_on}
use Rattle.cfi_meaning.proofs.LeanSteps.{with_pending}
use Rattle.cfi_meaning.proofs.Names.{stores_unit}
use Rattle.cfi_meaning.proofs.Places.{comes, full_shown}

-- a store is the one of its member, off the base of its group
member_store : (low base : ℕ) (i : Instr) → IsStore i → base_of (Some i) ≡ base →
    I.Store (member_for low i).op base (member_for low i).value (offset_of i) ≡ i
member_store low base (I.Store op rs1 rs2 imm) store same = ap (λ (r : ℕ). I.Store op r rs2 imm) (sym same)
member_store low base other store same = let e = store.is in absurd (cc)

member_distance : (low : ℕ) (i : Instr) → IsStore i → (member_for low i).distance ≡ level (offset_of i) - low
member_distance low (I.Store op rs1 rs2 imm) store = refl
member_distance low other store = let e = store.is in absurd (cc)

base_held : (i : Instr) (r : Registers) → IsStore i → base_value i r ≡ get_reg r (base_of (Some i))
base_held (I.Store op rs1 rs2 imm) r store = refl
base_held other r store = let e = store.is in absurd (cc)

-- whose masks have two words at most
lean_mask : (version : GraphVersion) (short : Bool) → has_leaves version ≡ true → mask_words (mask_by version short) ≤ 2
lean_mask OneLabel short lean = absurd (cc)
lean_mask TwoLabels short lean = absurd (cc)
lean_mask CalleeSaves true lean = omega arith
lean_mask CalleeSaves false lean = omega arith

module _ (m : Choice) (image : Contents) (of : IsImageOf m image) (k : ℕ) (place : IsPlace m k) (store : holds_store m k ≡ true) (first : is_later_at m k ≡ false) where
  abbrev base : ℕ
  base = base_of (Some (instr_of m k))

  abbrev member : ℕ → Member
  member = member_at m (low_at m k)

  abbrev how : Mask
  how = mask_at m k

  abbrev mask : ℕ
  mask = field (low_at m k)

  abbrev stores : U.Unit
  stores = V.Stores how base mask (members_from member k (suc (behind m k)))

  own_there : IsStore (instr_of m k)
  own_there = store_at m of.accepted k place.below store

  unit_is : unit_here m k ≡ stores
  unit_is = stores_unit m k store own_there

  next : IsNext m k
  next = next_there m of.accepted k place.below first (stores_go_on (item_of m.layout.program k).kind store)

  module _ (i : ℕ) (few : i ≤ behind m k) where
    here : (k + i < count m.layout.program) × (holds_store m (k + i) ≡ true)
    here = inside m of.accepted k place.below store first i few

    store_here : IsStore (instr_of m (k + i))
    store_here = store_at m of.accepted (k + i) here.0 here.1

    own_is : own_store base member (offset_at m) (k + i) ≡ instr_of m (k + i)
    own_is = member_store (low_at m k) base (instr_of m (k + i)) store_here (bases m of.accepted k place.below store first i few)

    past : IsPast mask (offset_at m (k + i)) (member (k + i)).distance
    past =
        subst (IsPast mask (offset_at m (k + i))) (sym (member_distance (low_at m k) (instr_of m (k + i)) store_here))
        ((masked m of.accepted k place.below store first).past i few)

    does : (o : Own) → TamePlace m image (k + i) o →
        place_step m (k + i) o ≡ executes m.layout.profile o (own_store base member (offset_at m) (k + i)) o.regs (gate m.layout (k + i + 1))
    does o now =
        store_step m.layout.profile (item_of m.layout.program (k + i)).kind (instr_of m (k + i)) (gate_to m.layout (item_of m.layout.program (k + i)).target)
        (gate m.layout (k + i + 1)) (at_word m (k + i) o) here.1
        ∙ (stores_on m.layout.profile (instr_of m (k + i)) (gate m.layout (k + i + 1)) o store_here (now.inside here.1)).anywhere (word m.layout (k + i))
        ∙ ap (λ (j : Instr). executes m.layout.profile o j o.regs (gate m.layout (k + i + 1))) (sym own_is)

    stays_inside : (o : Own) → TamePlace m image (k + i) o → touched (own_store base member (offset_at m) (k + i)) o.regs ≤ 2 ^ 28
    stays_inside o now = subst (λ (j : Instr). touched j o.regs ≤ 2 ^ 28) (sym own_is) (now.inside here.1)

    store_there : IsStoreAt (place_step m) (TamePlace m image) m.layout.profile base mask member (offset_at m) (gate m.layout) (k + i)
    store_there = record { past = past; step = does; window = stays_inside }

  ends : gate m.layout (k + suc (behind m k)) ≡ after_unit stores (word m.layout k)
  ends =
      let same : k + suc (behind m k) ≡ k + (behind m k + 1) = omega arith in
      ap (gate m.layout) same ∙ sym next.after ∙ ap (λ (u : U.Unit). after_unit u (word m.layout k)) unit_is

  -- what is masked lies in the window: one of the stores is just there, or the mask is of the base alone
  tells : (o : Own) → TamePlace m image k o → TellsLow base mask member k (suc (behind m k)) o.regs
  tells o now =
      elim ((masked m of.accepted k place.below store first).told) [
        | inl (index, few, none) ↦
            inl (index, omega arith, member_distance (low_at m k) (instr_of m (k + index)) (store_here index few) ∙ none)
        | inr (short, none) ↦
            let by = short_by m.layout.closed.version (is_short (item_of m.layout.program k)) short in
            inr (none, subst (λ (n : ℕ). n < 2 ^ 28) (base_held (instr_of m k) o.regs own_there) (now.base store by.0 by.1))
      ]

  -- the run over the group is one step
  pub made : (o last : Own) → PlacesRun m image (range_with_len k (suc (behind m k))) o last →
      (sum_of o.regs base mask < 2 ^ 28) × (own_step m.layout.profile (at_word m k o) stores ≡ record { state = last; turn = Ran })
  made o last run =
      group_step (place_step m) (TamePlace m image) m.layout.profile base mask member (offset_at m) (gate m.layout) how (suc (behind m k)) k (word m.layout k) o last
      (omega arith) (λ i below. store_there i (omega arith)) (tells o run.0) ends run

  module _ (o last : Own) (run : PlacesRun m image (range_with_len k (suc (behind m k))) o last) where
    abbrev left : Own
    left = record last { pending = (shown m k o).pending }

    goes : own_step m.layout.profile (at_word m k o) stores ≡ record { state = last; turn = Ran }
    goes = (made o last run).1

    leads : own_step m.layout.profile (at_unit m k o) (unit_here m k) ≡ record { state = left; turn = Ran }
    leads = ap (own_step m.layout.profile (at_unit m k o)) unit_is ∙ ap (with_pending (shown m k o).pending) goes

    come : ComesToPlace m image k o
    come = comes m image of k o place first run.0.at (subst (λ (u : U.Unit). IsTame (loaded image) u (shown m k o).pending o.regs) (sym unit_is) (made o last run).0)

    at_next : last.pc ≡ gate m.layout (k + (behind m k + 1))
    at_next = sym (ap (λ (a : OwnAfter). a.state.pc) goes) ∙ ap (λ (u : U.Unit). after_unit u (word m.layout k)) (sym unit_is) ∙ next.after

    same : last.pending ≡ o.pending
    same = sym (ap (λ (a : OwnAfter). a.state.pending) goes)

    lean_through : has_leaves m.layout.closed.version ≡ true → ComesThrough m image k (Some (k + (behind m k + 1))) o last
    lean_through lean =
        let there = alike_lands m image of lean k o run.0 (k + (behind m k + 1)) last next.below at_next same next.kind in
        let none : words_along come.path ≡ 0 = ap words_along (come.none lean) in
        let size : word_count (unit_here m k) ≡ word_count stores = ap word_count unit_is in
        let all = many m of.accepted k place.below store first in
        let members = most_members m of.accepted k place.below store first in
        let words = lean_mask m.layout.closed.version (is_short (item_of m.layout.program k)) lean in
        let most = lean_most m.layout.closed.version (length m.layout.closed.sides) lean in
        let few = there.few in
        record { comes = come; left = left; leads = leads; behind = there.path; lands = there.runs; few = omega arith }

    full_through : has_leaves m.layout.closed.version ≡ false → ComesThrough m image k (Some (k + (behind m k + 1))) o last
    full_through full =
        let sites : (shown m k o).pending ≡ last.pending = ap (λ (x : Own). x.pending) (full_shown m k o full run.0.at) ∙ sym same in
        let most = full_most m.layout.closed.version (length m.layout.closed.sides) full in
        let some = most_words (unit_here m k) (word m.layout k) come.step.fits in
        let few = come.few in
        record {
          comes = come;
          left = left;
          leads = leads;
          behind = [];
          lands = full_shown m (k + (behind m k + 1)) last full at_next ∙ ap (λ (l : List ℕ). record last { pending = l }) (sym sites);
          few = omega arith;
        }

    through : ComesThrough m image k (Some (k + (behind m k + 1))) o last
    through =
        elim (cases_Bool (has_leaves m.layout.closed.version)) [
          | inl lean ↦ lean_through lean
          | inr full ↦ full_through full
        ]

pub group_runs : law.GroupRuns
group_runs m image k o last of store first run = through m image of k run.0.place store first o last run
