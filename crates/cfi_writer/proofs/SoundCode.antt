-- The units and classes that are written are sound.
use Rattle.std.proofs.Common.{◌≡◌, ℕ, zero, suc, ◌+◌, ◌<◌, inl, inr, Bool, true, false, List, [], ◌∷◌, ◌++◌, Option, Some, None, refl, sym, ap, subst, ◌∙◌, arith}
use Rattle.std.specs.Prelude.{is_some, slice_get}
use Rattle.std.specs.List.{last_or}
use Rattle.std.proofs.lemmas.Bool.{cases_Bool}
use Rattle.cfi_writer.proofs.Prelude.{GraphVersion, OneLabel, TwoLabels, CalleeSaves, Instr, ItemKind, count, is_end, item_of, in_leaf, leaf_end, aim_of, entered_in, site_label, whole_at, Leaf, leaves_in, admits, EndsIn, StartsIn, IsAccepted, WrittenIsSound, written_heads, Choice, Group, entry_arrival, group_at, instr_of, is_later_at, lead, unit_by, unit_here, unit_places, units, units_of}
use Rattle.obj_input.specs.declared.item_kind.ItemKind.TheVariants as is
use Rattle.cfi_unit.specs.declared.unit.Unit as U
use Rattle.cfi_unit.specs.declared.unit.Unit.TheVariants as V
use Rattle.cfi_rules.specs.Sound.{IsSound}
pub use Rattle.cfi_writer.proofs.BorneLabels.{member_at, member_there}
use Rattle.cfi_writer.proofs.BorneLabels.{gated, strays}
use Rattle.cfi_writer.proofs.Grouping.{other_first}
use Rattle.cfi_writer.proofs.HeadLines.{heads_all, heads_class, heads_leaves, heads_serve, heads_told, heads_with}
use Rattle.cfi_writer.proofs.LeafLines.{from_leaf}
use Rattle.cfi_writer.proofs.LeafStarts.{ends_last}
use Rattle.cfi_writer.proofs.Leading.{units_ahead, units_fit}
use Rattle.cfi_writer.proofs.NextPlaces.{begins_first, end_stores_none}
use Rattle.cfi_writer.proofs.Pieces.{end_first, end_inside, leaf_begins}
use Rattle.cfi_writer.proofs.Runs.{places_more, places_skip}
use Rattle.cfi_writer.proofs.Standing.{found, starts, unit_there}
use Rattle.cfi_writer.proofs.UnitKinds.{entry_called, of_kind}
use Rattle.cfi_writer.proofs.UnitsAdmitted.{admitted, arrives, entry_first, entry_reached, leads, site_served}

-- the last unit is that of the last place
last_led : (vs : List U.Unit) (o : Option U.Unit) (u : U.Unit) (us : List U.Unit) → last_or o (vs ++ (u ∷ us)) ≡ last_or (Some u) us
last_led [] o u us = refl
last_led (v ∷ vs) o u us = last_led vs (Some v) u us

last_unit : (m : Choice) (k n : ℕ) (o : Option U.Unit) → is_later_at m (k + n) ≡ false → last_or o (units_of m (unit_places m k (suc n))) ≡ Some (unit_here m (k + n))
unfolding units_of
last_unit m k zero o first =
    let start : k + 0 ≡ k = omega arith in
    let is_first : is_later_at m k ≡ false = subst (λ (j : ℕ). is_later_at m j ≡ false) start first in
    ap (λ (ks : List ℕ). last_or o (units_of m ks)) (places_more m k 0 is_first) ∙ last_led (lead m k) o (unit_here m k) []
    ∙ ap (λ (j : ℕ). Some (unit_here m j)) (sym start)
last_unit m k (suc n) o first =
    let next : k + 1 + n ≡ k + suc n = omega arith in
    let later : is_later_at m (k + 1 + n) ≡ false = subst (λ (j : ℕ). is_later_at m j ≡ false) (sym next) first in
    elim (cases_Bool (is_later_at m k)) [
      | inl skipped ↦
          ap (λ (ks : List ℕ). last_or o (units_of m ks)) (places_skip m k (suc n) skipped) ∙ last_unit m (k + 1) n o later
          ∙ ap (λ (j : ℕ). Some (unit_here m j)) next
      | inr first_is ↦
          ap (λ (ks : List ℕ). last_or o (units_of m ks)) (places_more m k (suc n) first_is)
          ∙ last_led (lead m k) o (unit_here m k) (units_of m (unit_places m (k + 1) (suc n)))
          ∙ last_unit m (k + 1) n (Some (unit_here m k)) later ∙ ap (λ (j : ℕ). Some (unit_here m j)) next
    ]

-- a section's end is a stop
end_stops : (version : GraphVersion) (calls : Option (List ℕ)) (inside : Bool) (kind : ItemKind) (i : Instr) (whole : Bool) (target label : ℕ) (group : Group) → is_end kind ≡ true →
    unit_by version calls inside kind i whole target label group ≡ V.Stop
end_stops OneLabel calls inside is.End i whole target label group last = refl
end_stops TwoLabels calls inside is.End i whole target label group last = refl
end_stops CalleeSaves calls inside is.End i whole target label group last = refl
end_stops version calls inside other i whole target label group last = absurd (cc)

module _ (m : Choice) (ok : IsAccepted m) where
  -- a leaf begins at a unit's start, and ends at one
  leaf_ends : (k : ℕ) (leaf : Leaf) → slice_get (leaves_in (written_heads m)) k ≡ Some leaf → StartsIn m.layout.profile (units m) leaf.from × EndsIn m.layout.profile (units m) leaf.to
  leaf_ends k leaf get =
      let (e, at, is, same) = from_leaf m k leaf (ap (λ (ls : List Leaf). slice_get ls k) (sym (heads_leaves m)) ∙ get) in
      let below = end_inside (entered_in m.layout) e is.leaf is.below (ends_last m ok) in
      let starts_there = ap is_some (unit_there m ok e is.below (begins_first m ok e (leaf_begins (entered_in m.layout) e is.leaf))) in
      let ends_there = starts m ok (leaf_end (entered_in m.layout) e) below (begins_first m ok (leaf_end (entered_in m.layout) e) (end_first (entered_in m.layout) e is.leaf is.below (ends_last m ok))) in
      subst (λ (l : Leaf). StartsIn m.layout.profile (units m) l.from × EndsIn m.layout.profile (units m) l.to) same (starts_there, inl ends_there)

  -- the last unit is a stop
  last_stops : last_or None (units m) ≡ Some V.Stop
  last_stops =
      let (n, counted, ends) = ok.last in
      let below : n < count m.layout.program = omega arith in
      let start : 0 + n ≡ n = omega arith in
      let many : count m.layout.program ≡ suc n = omega arith in
      let first = other_first m n (end_stores_none (item_of m.layout.program n).kind ends) in
      ap (λ (c : ℕ). last_or None (units_of m (unit_places m 0 c))) many
      ∙ last_unit m 0 n None (subst (λ (j : ℕ). is_later_at m j ≡ false) (sym start) first)
      ∙ ap (λ (k : ℕ). Some (unit_here m k)) start
      ∙ ap Some (end_stops m.layout.closed.version m.layout.closed.calls (in_leaf (entered_in m.layout) n) (item_of m.layout.program n).kind (instr_of m n) (whole_at m.whole n)
      (aim_of m.layout (item_of m.layout.program n)) (site_label m.labels m.layout.closed.sides n) (group_at m n) ends)

  sound_code : IsSound m.layout.profile m.layout.closed.version (entry_arrival m) (units m) (written_heads m)
  sound_code = record {
    profile = ok.profile;
    saves = ok.saves;
    fit = units_fit m ok;
    ahead = units_ahead m ok;
    admitted = λ a u e.
        let at = found m ok a u e in
        subst (λ (calls : Option (List ℕ)). admits m.layout.closed.version calls u ≡ true) (sym (heads_told m)) (admitted m ok at.index a u at.below at.unit);
    kinds = of_kind m ok;
    leaves = leaf_ends;
    entry_reached = entry_reached m ok;
    entry_called = entry_called m ok;
    entry_starts = arrives m ok m.layout.entry ok.entry_there (entry_first m ok);
    targets = λ a target u e leads_to. let at = found m ok a u e in leads m ok at.index a target u at.below at.first at.unit leads_to;
    heads_are = heads_all m;
    labels = λ a u asked e wants.
        let at = found m ok a u e in
        ap is_some (heads_serve m asked.kind asked.which asked.label) ∙ site_served m ok at.index a u asked at.below at.unit wants;
    gates = λ j a class e among. let (i, is) = heads_class m j class e in gated m ok i a class is among;
    astray = λ label a line e asked.
        let at = found m ok a (V.Gate label) e in
        strays m ok at.index label a line at.below at.unit (sym (heads_with m label) ∙ asked);
    ends = last_stops;
  }

pub written_sound : WrittenIsSound
written_sound = sound_code
