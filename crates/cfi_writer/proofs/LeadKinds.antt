-- Under graphs of version 3 each word before a unit is of its kind, by what stands behind it.
use Rattle.std.proofs.Common.{◌≡◌, ℕ, ◌+◌, ◌*◌, ◌<◌, true, false, List, Option, Some, None, refl, sym, ap, subst, ◌∙◌, arith}
use Rattle.std.specs.Prelude.{◌&&◌, is_some, not, slice_get}
use Rattle.std.proofs.lemmas.Bool.{and_left, false_from_ne_true, or_left, or_right}
use Rattle.cfi_writer.proofs.Prelude.{count, has_leaves, Entered, in_leaf, entered_in, gate, word, flow_of, after_unit, IsOfItsKind, Leaf, is_enter, is_fresh, is_gate_there, is_right_behind, is_right_target, leaf_of, may_be_reached, stands_by, IsAccepted, Choice, lead, lead_unit}
use Rattle.cfi_unit.specs.declared.unit.Unit as U
use Rattle.cfi_unit.specs.declared.unit.Unit.TheVariants as V
use Rattle.cfi_pending.specs.Kinds.{is_gate}
use Rattle.cfi_writer.proofs.FreshStarts.{fresh_if, stands, word_fresh, word_there}
use Rattle.cfi_writer.proofs.LeafLines.{leaves_of}
use Rattle.cfi_writer.proofs.LeafStarts.{no_leaf_at}
use Rattle.cfi_writer.proofs.LeanWords.{IsLeanWord, before_enter, before_jump, before_unit, jumps_over, saves_site, within_words}
use Rattle.cfi_writer.proofs.Standing.{lead_there, led_first, no_lead_in_leaf, word_is}
use Rattle.cfi_writer.proofs.LeadWords.{lead_word_count}

-- outside of leaves
module _ (unit_at : ℕ → Option U.Unit) (leaves : List Leaf) (a : ℕ) (outside : leaf_of leaves a ≡ None) where
  lead_stands_by : (o : Option ℕ) → stands_by None (lead_unit o) ≡ true
  lead_stands_by None = refl
  lead_stands_by (Some label) = refl

  lead_leads : (o : Option ℕ) → is_right_target unit_at leaves a (flow_of (lead_unit o)).sites (flow_of (lead_unit o)).exit ≡ true
  lead_leads None = refl
  lead_leads (Some label) = refl

  pub behind_saved : (u : U.Unit) (b : ℕ) → after_unit u a ≡ b → is_fresh unit_at leaves b ≡ false → is_right_behind unit_at leaves (leaf_of leaves a) a u ≡ true
  behind_saved u b next saved =
      ap (λ (o : Option Leaf). is_right_behind unit_at leaves o a u) outside
      ∙ or_right (is_gate u && is_enter (unit_at (a + 4))) (not (is_fresh unit_at leaves (after_unit u a)))
      (ap (λ (c : ℕ). not (is_fresh unit_at leaves c)) next ∙ ap not saved)

  quiet_kind : (o : Option ℕ) → is_fresh unit_at leaves (a + 4) ≡ false → IsOfItsKind unit_at leaves a (lead_unit o)
  quiet_kind o saved = record {
    stands = ap (λ (l : Option Leaf). stands_by l (lead_unit o)) outside ∙ lead_stands_by o;
    behind = λ on. behind_saved (lead_unit o) (a + 4) (let one = lead_word_count o in omega arith) saved;
    target = lead_leads o;
  }

  jump_kind : (t : ℕ) → is_fresh unit_at leaves t ≡ false → IsOfItsKind unit_at leaves a (V.Jump t)
  jump_kind t saved = record {
    stands = ap (λ (l : Option Leaf). stands_by l (V.Jump t)) outside;
    behind = λ on. absurd (cc);
    target = ap (λ (l : Option Leaf). may_be_reached unit_at leaves l t) outside ∙ ap not saved;
  }

  gate_kind : (label : ℕ) → is_enter (unit_at (a + 4)) ≡ true → IsOfItsKind unit_at leaves a (V.Gate label)
  gate_kind label enter = record {
    stands = ap (λ (l : Option Leaf). stands_by l (V.Gate label)) outside;
    behind = λ on.
        ap (λ (l : Option Leaf). is_right_behind unit_at leaves l a (V.Gate label)) outside
        ∙ or_left (is_enter (unit_at (a + 4))) (not (is_fresh unit_at leaves (after_unit (V.Gate label) a))) enter;
    target = refl;
  }

  enter_kind : is_fresh unit_at leaves (a + 20) ≡ false → IsOfItsKind unit_at leaves a V.Enter
  enter_kind saved = record {
    stands = ap (λ (l : Option Leaf). stands_by l V.Enter) outside;
    behind = λ on. behind_saved V.Enter (a + 20) refl saved;
    target = refl;
  }

module _ (m : Choice) (ok : IsAccepted m) (lean : has_leaves m.layout.closed.version ≡ true) where
  abbrev of : Entered
  of = entered_in m.layout

  -- a word before a unit
  unled_outside : (k j : ℕ) (u : U.Unit) → slice_get (lead m k) j ≡ Some u → in_leaf of k ≡ false
  unled_outside k j u get =
      false_from_ne_true (in_leaf of k)
      (λ inside.
      let within = within_words (lead m k) j u get in
      let word_at = word_is m ok k in
      let none = no_lead_in_leaf m ok k inside in
      omega arith)

  led_kind : (k j a : ℕ) (u : U.Unit) → k < count m.layout.program → slice_get (lead m k) j ≡ Some u → a ≡ gate m.layout k + 4 * j →
      leaf_of (leaves_of m) a ≡ None → in_leaf of k ≡ false → IsLeanWord (lead m k) (word m.layout k) j u →
      IsOfItsKind (stands m) (leaves_of m) a u
  led_kind k j a u below get here none outside (before_unit o same words) =
      let behind_it = word_is m ok k in
      let next : a + 4 ≡ word m.layout k = omega arith in
      subst (IsOfItsKind (stands m) (leaves_of m) a) (sym same)
      (quiet_kind (stands m) (leaves_of m) a none o
      (ap (is_fresh (stands m) (leaves_of m)) next ∙ word_fresh m ok lean k below (led_first m ok k j u get) ∙ outside))
  led_kind k j a u below get here none outside (before_jump o same next) =
      let within = within_words (lead m k) (j + 1) (V.Jump (word m.layout k)) next in
      let behind_it = word_is m ok k in
      let at : a + 4 ≡ gate m.layout k + 4 * (j + 1) = omega arith in
      let there : stands m (a + 4) ≡ Some (V.Jump (word m.layout k)) = ap (stands m) at ∙ lead_there m ok k (j + 1) (V.Jump (word m.layout k)) below next in
      subst (IsOfItsKind (stands m) (leaves_of m) a) (sym same)
      (quiet_kind (stands m) (leaves_of m) a none o
      (fresh_if m ok lean (a + 4) (ap is_enter there) (and_left (is_gate_there (stands m (a + 4))) _ (ap is_gate_there there))
      ∙ ap is_some (no_leaf_at m ok lean k (a + 4) below outside (omega arith) (omega arith))))
  led_kind k j a u below get here none outside (jumps_over same) =
      subst (IsOfItsKind (stands m) (leaves_of m) a) (sym same)
      (jump_kind (stands m) (leaves_of m) a none (word m.layout k) (word_fresh m ok lean k below (led_first m ok k j u get) ∙ outside))
  led_kind k j a u below get here none outside (before_enter label same some next) =
      let at : a + 4 ≡ gate m.layout k + 4 * (j + 1) = omega arith in
      subst (IsOfItsKind (stands m) (leaves_of m) a) (sym same)
      (gate_kind (stands m) (leaves_of m) a none label (ap (λ (b : ℕ). is_enter (stands m b)) at ∙ ap is_enter (lead_there m ok k (j + 1) V.Enter below next)))
  led_kind k j a u below get here none outside (saves_site same some words) =
      let behind_it = word_is m ok k in
      let next : a + 20 ≡ word m.layout k = omega arith in
      subst (IsOfItsKind (stands m) (leaves_of m) a) (sym same)
      (enter_kind (stands m) (leaves_of m) a none
      (ap (is_fresh (stands m) (leaves_of m)) next ∙ word_fresh m ok lean k below (led_first m ok k j u get) ∙ outside))

  pub lead_kind : (k j a : ℕ) (u : U.Unit) → k < count m.layout.program → slice_get (lead m k) j ≡ Some u → a ≡ gate m.layout k + 4 * j →
      IsOfItsKind (stands m) (leaves_of m) a u
  lead_kind k j a u below get here =
      let outside = unled_outside k j u get in
      let within = within_words (lead m k) j u get in
      let behind_it = word_is m ok k in
      led_kind k j a u below get here (no_leaf_at m ok lean k a below outside (omega arith) (omega arith)) outside (word_there m ok lean k j u get)
