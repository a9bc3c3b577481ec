-- What each unit is to a graph: it is admitted there, a direct transfer leads to a unit, and a class with its label serves a computed one. The
-- opening's call reaches the entry.
use Rattle.std.proofs.Common.{◌≡◌, ◌⊎◌, ℕ, ◌<◌, ◌==◌, inl, inr, Bool, true, false, List, Option, Some, None, refl, sym, ap, subst, ◌∙◌, arith}
use Rattle.std.specs.Prelude.{is_some}
use Rattle.std.proofs.lemmas.Bool.{cond_both, eq-eqb, or_left}
use Rattle.std.proofs.lemmas.Option.{same_Some}
use Rattle.cfi_writer.proofs.Prelude.{GraphVersion, OneLabel, TwoLabels, CalleeSaves, count, item_of, has_leaves, SiteKind, site_kind, is_call, enters, in_leaf, aim_of, arrival, arrival_by, arrival_to, entered_in, gate, gate_to, word, is_short, site_label, whole_at, Reaches, targets_for, admits, site_of, StartsIn, target_of, Asks, IsAccepted, written_classes, AreLabelled, word_asked, Choice, bounds_at, entry_arrival, group_at, instr_of, is_later_at, lead_unit, unit_here, units}
use Rattle.cfi_unit.specs.declared.place.Place.TheVariants.{Body as body}
use Rattle.cfi_unit.specs.declared.unit.Unit as U
use Rattle.cfi_unit.specs.declared.unit.Unit.TheVariants as V
use Rattle.cfi_writer.proofs.Fitting.{IsInCode, reach}
use Rattle.cfi_writer.proofs.Grouping.{entered_first}
use Rattle.cfi_writer.proofs.LeadWords.{IsLeadWord, from_lead, over, saver, side_word}
use Rattle.cfi_writer.proofs.Leading.{arrival_in, direct, target_is_entered}
use Rattle.cfi_writer.proofs.Runs.{IsUnit, lead_word, own}
use Rattle.cfi_writer.proofs.SideLabels.{sites_served}
use Rattle.cfi_writer.proofs.Standing.{laid, right, saver_at, starts, unit_there}
use Rattle.cfi_writer.proofs.UnitOf.{is_free, unit_admitted, unit_site, unit_target}

-- the entry may be entered
entry_entered : (m : Choice) → (bounds_at m).entered m.layout.entry ≡ true
entry_entered m = or_left (m.layout.entry == m.layout.entry) _ (eq-eqb m.layout.entry m.layout.entry refl)

-- a word of a side is no transfer, and admitted under each version
lead_aims : (o : Option ℕ) → target_of (lead_unit o) ≡ None
lead_aims None = refl
lead_aims (Some label) = refl

lead_asks : (o : Option ℕ) → is_some (site_of (body (lead_unit o))) ≡ false
lead_asks None = refl
lead_asks (Some label) = refl

lead_admitted : (version : GraphVersion) (calls : Option (List ℕ)) (o : Option ℕ) → admits version calls (lead_unit o) ≡ true
lead_admitted OneLabel calls None = is_free OneLabel calls (lead_unit None) refl (λ numbers. refl) refl refl
lead_admitted TwoLabels calls None = is_free TwoLabels calls (lead_unit None) refl (λ numbers. refl) refl refl
lead_admitted CalleeSaves calls None = is_free CalleeSaves calls (lead_unit None) refl (λ numbers. refl) refl refl
lead_admitted OneLabel calls (Some label) = is_free OneLabel calls (lead_unit (Some label)) refl (λ numbers. refl) refl refl
lead_admitted TwoLabels calls (Some label) = is_free TwoLabels calls (lead_unit (Some label)) refl (λ numbers. refl) refl refl
lead_admitted CalleeSaves calls (Some label) = is_free CalleeSaves calls (lead_unit (Some label)) refl (λ numbers. refl) refl refl

-- so are a jump and what saves a site, where callees save sites
jump_admitted : (version : GraphVersion) (calls : Option (List ℕ)) (t : ℕ) → has_leaves version ≡ true → admits version calls (V.Jump t) ≡ true
jump_admitted OneLabel calls t lean = absurd (cc)
jump_admitted TwoLabels calls t lean = absurd (cc)
jump_admitted CalleeSaves calls t lean = is_free CalleeSaves calls (V.Jump t) refl (λ numbers. refl) refl refl

enter_admitted : (version : GraphVersion) (calls : Option (List ℕ)) → has_leaves version ≡ true → admits version calls V.Enter ≡ true
enter_admitted OneLabel calls lean = absurd (cc)
enter_admitted TwoLabels calls lean = absurd (cc)
enter_admitted CalleeSaves calls lean = is_free CalleeSaves calls V.Enter refl (λ numbers. refl) refl refl

-- where calls arrive at a place: where callers save sites at its gate
arrives_at : (version : GraphVersion) (saves : Bool) (at past : ℕ) →
    ((has_leaves version ≡ false) × (arrival_by version saves at past ≡ at))
    ⊎ (((has_leaves version ≡ true) × (saves ≡ true)) ⊎ ((has_leaves version ≡ true) × (arrival_by version saves at past ≡ past)))
arrives_at OneLabel saves at past = inl (refl, refl)
arrives_at TwoLabels saves at past = inl (refl, refl)
arrives_at CalleeSaves true at past = inr (inl (refl, refl))
arrives_at CalleeSaves false at past = inr (inr (refl, refl))

module _ (m : Choice) (ok : IsAccepted m) where
  pub entry_first : is_later_at m m.layout.entry ≡ false
  entry_first = entered_first m ok.groups m.layout.entry (entry_entered m)

  pub entry_reached : Reaches m.layout.profile.opening_call (entry_arrival m)
  entry_reached =
      let there = arrival_in m ok m.layout.entry ok.entry_there entry_first in
      let from = there.from in
      let to = there.to in
      let before = (laid m ok).call in
      let after = (laid m ok).closing in
      let low = (laid m ok).low in
      let high = (laid m ok).high in
      let even = (laid m ok).round in
      let call : IsInCode m.layout.profile.opening_call = record { from = omega arith; to = omega arith; round = omega arith } in
      let inside : IsInCode (entry_arrival m) = record { from = omega arith; to = omega arith; round = there.round } in
      reach m.layout.profile.opening_call (entry_arrival m) call inside

  -- where calls arrive a unit stands
  pub arrives : (t : ℕ) → t < count m.layout.program → is_later_at m t ≡ false → StartsIn m.layout.profile (units m) (arrival m.layout t)
  arrives t below first =
      elim (arrives_at m.layout.closed.version (enters (entered_in m.layout) t) (gate m.layout t) (word m.layout t)) [
        | inl (full, at) ↦ subst (StartsIn m.layout.profile (units m)) (sym at) (starts m ok t below first)
        | inr lean ↦
            elim lean [
              | inl (leaves_there, saves) ↦ ap is_some (saver_at m ok t below leaves_there saves)
              | inr (leaves_there, at) ↦ subst (StartsIn m.layout.profile (units m)) (sym at) (ap is_some (unit_there m ok t below first))
            ]
      ]

  -- direct transfers lead to units
  pub leads : (k a target : ℕ) (u : U.Unit) → k < count m.layout.program → is_later_at m k ≡ false → IsUnit m k a u → target_of u ≡ Some target →
      StartsIn m.layout.profile (units m) target
  leads k a target u below first (lead_word j get here) e = leads_led k j target u below first (from_lead m k j u get) e
    where
      leads_led : (k j target : ℕ) (u : U.Unit) → k < count m.layout.program → is_later_at m k ≡ false → IsLeadWord m k j u → target_of u ≡ Some target →
          StartsIn m.layout.profile (units m) target
      leads_led k j target u below first (side_word i o there at is same) e =
          let wrong : None ≡ Some target = sym (lead_aims o) ∙ ap target_of (sym same) ∙ e in
          absurd (cc)
      leads_led k j target u below first (over lean saves at same) e =
          let to : word m.layout k ≡ target = same_Some (word m.layout k) target (ap target_of (sym same) ∙ e) in
          subst (StartsIn m.layout.profile (units m)) to (ap is_some (unit_there m ok k below first))
      leads_led k j target u below first (saver lean saves last same) e =
          let wrong : None ≡ Some target = ap target_of (sym same) ∙ e in
          absurd (cc)
  leads k a target u below first (own here unit_is) e =
      let of : target_of (unit_here m k) ≡ Some target = sym (ap target_of unit_is) ∙ e in
      let aim = unit_target m.layout.closed.version m.layout.closed.calls (in_leaf (entered_in m.layout) k) (item_of m.layout.program k).kind (instr_of m k) (whole_at m.whole k)
      (aim_of m.layout (item_of m.layout.program k)) (site_label m.labels m.layout.closed.sides k) (group_at m k) target (right m ok k below) of in
      let (t, some, there) = direct m ok k below aim.0 in
      let t_first = entered_first m ok.groups t (target_is_entered m k t below some) in
      subst (StartsIn m.layout.profile (units m)) aim.1
      (cond_both (is_call (item_of m.layout.program k).kind) (arrival_to m.layout (item_of m.layout.program k).target) (gate_to m.layout (item_of m.layout.program k).target)
      (StartsIn m.layout.profile (units m))
      (λ call. subst (λ (o : Option ℕ). StartsIn m.layout.profile (units m) (arrival_to m.layout o)) (sym some) (arrives t there t_first))
      (λ other. subst (λ (o : Option ℕ). StartsIn m.layout.profile (units m) (gate_to m.layout o)) (sym some) (starts m ok t there t_first)))

  pub labelled_sides : AreLabelled m.layout.closed.version m.labels m.layout.closed.sides
  labelled_sides = record { sorts = ok.sorts; counted = ok.counted; rising = ok.labels_rise; apart = ok.apart; site_classes = ok.site_classes }

  -- a class with the label of a site serves it
  site_given : (k : ℕ) (site : SiteKind) → k < count m.layout.program → site_kind (item_of m.layout.program k).kind ≡ Some site →
      is_some (targets_for (written_classes m) site (word_asked m.layout.closed.version site) (site_label m.labels m.layout.closed.sides k)) ≡ true
  site_given k site below some = ap is_some (sites_served m.layout.closed.version m.layout.gates m.labels m.layout.closed.sides labelled_sides k site (ok.sites k site below some))

  led_asks : (k j : ℕ) (u : U.Unit) → IsLeadWord m k j u → is_some (site_of (body u)) ≡ false
  led_asks k j u (side_word i o there at is same) = ap (λ (v : U.Unit). is_some (site_of (body v))) same ∙ lead_asks o
  led_asks k j u (over lean saves at same) = ap (λ (v : U.Unit). is_some (site_of (body v))) same
  led_asks k j u (saver lean saves last same) = ap (λ (v : U.Unit). is_some (site_of (body v))) same

  pub site_served : (k a : ℕ) (u : U.Unit) (asked : Asks) → k < count m.layout.program → IsUnit m k a u → site_of (body u) ≡ Some asked →
      is_some (targets_for (written_classes m) asked.kind asked.which asked.label) ≡ true
  site_served k a u asked below (lead_word j get here) e =
      let wrong : false ≡ true = sym (led_asks k j u (from_lead m k j u get)) ∙ ap is_some e in
      absurd (cc)
  site_served k a u asked below (own here unit_is) e =
      let of : site_of (body (unit_here m k)) ≡ Some asked = sym (ap (λ (v : U.Unit). site_of (body v)) unit_is) ∙ e in
      let (kind, site, same) = unit_site m.layout.closed.version m.layout.closed.calls (in_leaf (entered_in m.layout) k) (item_of m.layout.program k).kind (instr_of m k) (whole_at m.whole k)
      (aim_of m.layout (item_of m.layout.program k)) (site_label m.labels m.layout.closed.sides k) (group_at m k) asked (right m ok k below) of in
      subst (λ (s : Asks). is_some (targets_for (written_classes m) s.kind s.which s.label) ≡ true) same (site_given k kind below site)

  -- each unit is admitted in the graph
  led_admitted : (k j : ℕ) (u : U.Unit) → IsLeadWord m k j u → admits m.layout.closed.version m.layout.closed.calls u ≡ true
  led_admitted k j u (side_word i o there at is same) =
      ap (admits m.layout.closed.version m.layout.closed.calls) same ∙ lead_admitted m.layout.closed.version m.layout.closed.calls o
  led_admitted k j u (over lean saves at same) =
      ap (admits m.layout.closed.version m.layout.closed.calls) same ∙ jump_admitted m.layout.closed.version m.layout.closed.calls (word m.layout k) lean
  led_admitted k j u (saver lean saves last same) =
      ap (admits m.layout.closed.version m.layout.closed.calls) same ∙ enter_admitted m.layout.closed.version m.layout.closed.calls lean

  pub admitted : (k a : ℕ) (u : U.Unit) → k < count m.layout.program → IsUnit m k a u → admits m.layout.closed.version m.layout.closed.calls u ≡ true
  admitted k a u below (lead_word j get here) = led_admitted k j u (from_lead m k j u get)
  admitted k a u below (own here unit_is) =
      ap (admits m.layout.closed.version m.layout.closed.calls) unit_is
      ∙ unit_admitted m.layout.closed.version m.layout.closed.calls (in_leaf (entered_in m.layout) k) (item_of m.layout.program k).kind (instr_of m k) (whole_at m.whole k)
      (aim_of m.layout (item_of m.layout.program k)) (site_label m.labels m.layout.closed.sides k) (group_at m k) (is_short (item_of m.layout.program k)) (right m ok k below) refl
