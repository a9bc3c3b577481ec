-- Where the unit of a place goes on, the machine comes to the state at the place that is next: at once where callers save sites, and else over
-- the words before its unit.
use Rattle.std.proofs.Common.{◌≡◌, ℕ, ◌+◌, inl, inr, Bool, true, false, List, [], length, Option, Some, None, if◌then◌else◌, refl, sym, ap, subst, ◌∙◌, arith}
use Rattle.std.proofs.lemmas.Bool.{cases_Bool}
use Rattle.cfi_meaning.proofs.Prelude.{GraphVersion, OneLabel, TwoLabels, CalleeSaves, Contents, loaded, Instr, Turn, Ran, ItemKind, Item, item_of, has_leaves, in_leaf, aim_of, entered_in, gate, gate_to, word, site_label, whole_at, Fits, after_unit, word_count, Own, own_past, own_step, words_along, IsTame, jump_word, Choice, Group, group_at, instr_of, unit_by, unit_here, unit_of, IsImageOf, gate_of, is_outside, shown_of, ComesThrough, ComesToPlace, at_unit, shown, TamePlace, at_word, holds_store, place_step}
use Rattle.obj_input.specs.declared.item_kind.ItemKind.TheVariants as is
use Rattle.cfi_unit.specs.declared.unit.Unit as U
use Rattle.cfi_unit.proofs.Counts.{most_words}
use Rattle.cfi_writer.proofs.FreshStarts.{here_is, lean_here}
use Rattle.cfi_writer.proofs.Standing.{next_after}
use Rattle.cfi_writer.proofs.PlaceUnits.{full_aim}
use Rattle.cfi_meaning.specs.Bounds as bounds
use Rattle.cfi_meaning.specs.PlaceLaws as law
use Rattle.cfi_meaning.proofs.KindStep.{own_of_kind, suited}
use Rattle.cfi_meaning.proofs.Places.{full_shown, place_behind, place_runs}
use Rattle.cfi_meaning.proofs.KindLands.{by_kind}

pub lean_most : (version : GraphVersion) (sides : ℕ) → has_leaves version ≡ true → bounds.most_words_by version sides ≡ 21
lean_most OneLabel sides lean = absurd (cc)
lean_most TwoLabels sides lean = absurd (cc)
lean_most CalleeSaves sides lean = refl

pub full_most : (version : GraphVersion) (sides : ℕ) → has_leaves version ≡ false → bounds.most_words_by version sides ≡ 20 + sides
full_most OneLabel sides full = refl
full_most TwoLabels sides full = refl
full_most CalleeSaves sides full = absurd (cc)

-- where callers save sites the unit does all of its instruction's step
full_unit : (version : GraphVersion) (calls : Option (List ℕ)) (inside : Bool) (kind : ItemKind) (i : Instr) (whole : Bool) (target label : ℕ) (group : Group) →
    has_leaves version ≡ false → unit_by version calls inside kind i whole target label group ≡ unit_of calls kind i whole target (jump_word version) label group
full_unit OneLabel calls inside kind i whole target label group full = refl
full_unit TwoLabels calls inside kind i whole target label group full = refl
full_unit CalleeSaves calls inside kind i whole target label group full = absurd (cc)

module _ (m : Choice) (image : Contents) (k : ℕ) (next : Option ℕ) (o : Own) (of : IsImageOf m image) (other : holds_store m k ≡ false) (now : TamePlace m image k o)
    (going : (place_step m k o).turn ≡ Ran) (on : (place_step m k o).state.pc ≡ gate_of m.layout next) where
  abbrev here : Item
  here = item_of m.layout.program k

  comes : ComesToPlace m image k o
  comes = place_runs m image k o of other now

  past : after_unit (unit_here m k) (word m.layout k) ≡ gate m.layout (k + 1)
  past = sym (next_after m of.accepted k other (place_behind m k of.accepted now.place))

  lean_goes : has_leaves m.layout.closed.version ≡ true → (here.kind ≡ is.Return → (j : ℕ) → next ≡ Some j → is_outside m.layout j) →
      ComesThrough m image k next o (place_step m k o).state
  lean_goes lean outside =
      let unit = here_is m lean k in
      let there = by_kind m image of lean k o now here.kind (instr_of m k) next (record {
        is_kind = refl;
        some = now.place.no_end;
        other = other;
        suit = suited m k of.accepted now.place;
        fits = subst (λ (u : U.Unit). Fits u (word m.layout k)) unit comes.step.fits;
        tame = subst (λ (u : U.Unit). IsTame (loaded image) u (shown m k o).pending o.regs) unit (now.tame other);
        turn = going;
        on = on;
        outside = outside;
      }) in
      let none : words_along comes.path ≡ 0 = ap words_along (comes.none lean) in
      let size : word_count (unit_here m k) ≡ word_count (lean_here m k) = ap word_count unit in
      let most = lean_most m.layout.closed.version (length m.layout.closed.sides) lean in
      let few = there.few in
      let behind = there.lands.few in
      record {
        comes = comes;
        left = there.left;
        leads =
            ap (own_past m.layout.profile (at_unit m k o) (unit_here m k)) past
            ∙ ap (λ (u : U.Unit). own_past m.layout.profile (at_unit m k o) u (gate m.layout (k + 1))) unit ∙ there.leads;
        behind = there.lands.path;
        lands = there.lands.runs;
        few = omega arith;
      }

  full_shows : has_leaves m.layout.closed.version ≡ false → (after : Option ℕ) (last : Own) → last.pc ≡ gate_of m.layout after → shown_of m.layout after last ≡ last
  full_shows full None last at = ap (λ (a : ℕ). record last { pc = a }) (sym at)
  full_shows full (Some j) last at = full_shown m j last full at

  full_goes : has_leaves m.layout.closed.version ≡ false → ComesThrough m image k next o (place_step m k o).state
  full_goes full =
      let unit : unit_here m k ≡ unit_of m.layout.closed.calls here.kind (instr_of m k) (whole_at m.whole k) (gate_to m.layout here.target) (jump_word m.layout.closed.version)
      (site_label m.labels m.layout.closed.sides k) (group_at m k) =
      full_unit m.layout.closed.version m.layout.closed.calls (in_leaf (entered_in m.layout) k) here.kind (instr_of m k) (whole_at m.whole k) (aim_of m.layout here)
      (site_label m.labels m.layout.closed.sides k) (group_at m k) full
      ∙ ap (λ (a : ℕ). unit_of m.layout.closed.calls here.kind (instr_of m k) (whole_at m.whole k) a (jump_word m.layout.closed.version) (site_label m.labels m.layout.closed.sides k) (group_at m k))
      (full_aim m.layout here full) in
      let state : at_unit m k o ≡ at_word m k o = ap (at_word m k) (full_shown m k o full now.at) in
      let does : own_step m.layout.profile (at_unit m k o) (unit_here m k) ≡ place_step m k o =
      ap (own_past m.layout.profile (at_unit m k o) (unit_here m k)) past
      ∙ ap (λ (x : Own). own_past m.layout.profile x (unit_here m k) (gate m.layout (k + 1))) state
      ∙ ap (λ (u : U.Unit). own_past m.layout.profile (at_word m k o) u (gate m.layout (k + 1))) unit
      ∙ own_of_kind m.layout.profile m.layout.closed.calls here.kind (instr_of m k) (whole_at m.whole k) (gate_to m.layout here.target) (jump_word m.layout.closed.version)
      (site_label m.labels m.layout.closed.sides k) (gate m.layout (k + 1)) (group_at m k) (at_word m k o) now.place.no_end other (suited m k of.accepted now.place) in
      let most = full_most m.layout.closed.version (length m.layout.closed.sides) full in
      let some = most_words (unit_here m k) (word m.layout k) comes.step.fits in
      let lead = comes.few in
      record {
        comes = comes;
        left = (place_step m k o).state;
        leads = does ∙ ap (λ (t : Turn). record { state = (place_step m k o).state; turn = t }) going;
        behind = [];
        lands = full_shows full next (place_step m k o).state on;
        few = omega arith;
      }

pub step_goes_on : law.StepGoesOn
step_goes_on m image k next o of other now going on outside =
    elim (cases_Bool (has_leaves m.layout.closed.version)) [
      | inl lean ↦ lean_goes m image k next o of other now going on lean outside
      | inr full ↦ full_goes m image k next o of other now going on full
    ]
