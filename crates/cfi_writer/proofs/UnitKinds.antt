-- Each unit that is written is of its kind, under graphs of each version; the opening may call the entry, and a class's target is a saved
-- start.
use Rattle.std.proofs.Common.{◌≡◌, ℕ, ◌<◌, ◌==◌, inl, inr, Bool, true, false, List, Some, refl, sym, ap, subst, ◌∙◌}
use Rattle.std.specs.Prelude.{not}
use Rattle.std.proofs.lemmas.Bool.{cases_Bool, eq-eqb, false_from_ne_true, or_left, true≢false}
use Rattle.cfi_writer.proofs.Prelude.{count, has_leaves, is_target, in_leaf, entered_in, gate, is_full, IsOfItsKind, Leaf, is_fresh, may_be_called, leaves_in, may_be_entered, IsAccepted, written_heads, Choice, entry_arrival, is_later_at, unit_here}
use Rattle.cfi_unit.specs.declared.unit.Unit as U
use Rattle.cfi_rules.proofs.FullKinds.{admits_full, kinds_if_full, saved_if_full}
use Rattle.cfi_writer.proofs.CodeRoom.{target_entered}
use Rattle.cfi_writer.proofs.Entering.{in_leaf_untargeted}
use Rattle.cfi_writer.proofs.FreshStarts.{callable, gate_fresh, stands}
use Rattle.cfi_writer.proofs.Grouping.{entered_first}
use Rattle.cfi_writer.proofs.HeadLines.{heads_leaves, heads_no_leaves}
use Rattle.cfi_writer.proofs.LeadKinds.{lead_kind}
use Rattle.cfi_writer.proofs.LeafLines.{leaves_of}
use Rattle.cfi_writer.proofs.LeanKinds.{own_kind}
use Rattle.cfi_writer.proofs.Runs.{IsUnit, lead_word, own}
use Rattle.cfi_writer.proofs.Standing.{found}
use Rattle.cfi_writer.proofs.UnitsAdmitted.{admitted}

module _ (m : Choice) (ok : IsAccepted m) where
  abbrev leaves : List Leaf
  leaves = leaves_in (written_heads m)

  -- where callers save sites each is one of such code, and so of its kind, and no start is fresh
  module _ (plain : has_leaves m.layout.closed.version ≡ false) where
    full : (a : ℕ) (u : U.Unit) → stands m a ≡ Some u → is_full u ≡ true
    full a u e =
        let at = found m ok a u e in
        admits_full m.layout.closed.version m.layout.closed.calls u plain (admitted m ok at.index a u at.below at.unit)

    full_saved : (a : ℕ) → not (is_fresh (stands m) leaves a) ≡ true
    full_saved = saved_if_full (stands m) full leaves (heads_no_leaves m plain)

    full_kinds : (a : ℕ) (u : U.Unit) → stands m a ≡ Some u → IsOfItsKind (stands m) leaves a u
    full_kinds = kinds_if_full (stands m) full leaves (heads_no_leaves m plain)

    full_called : may_be_entered m.layout.profile.callee_saves (stands m) leaves (entry_arrival m) ≡ true
    full_called =
        ap (λ (callee : Bool). may_be_entered callee (stands m) leaves (entry_arrival m)) (ok.saves ∙ plain)
        ∙ full_saved (entry_arrival m)

  -- where callees do, each is of its kind too
  module _ (lean : has_leaves m.layout.closed.version ≡ true) where
    kind_by : (k a : ℕ) (u : U.Unit) → k < count m.layout.program → is_later_at m k ≡ false → IsUnit m k a u → IsOfItsKind (stands m) (leaves_of m) a u
    kind_by k a u below first (lead_word j get here) = lead_kind m ok lean k j a u below get here
    kind_by k a u below first (own here unit_is) =
        subst (λ (v : U.Unit). IsOfItsKind (stands m) (leaves_of m) a v) (sym unit_is)
        (subst (λ (b : ℕ). IsOfItsKind (stands m) (leaves_of m) b (unit_here m k)) (sym here) (own_kind m ok lean k below first))

    lean_kinds : (a : ℕ) (u : U.Unit) → stands m a ≡ Some u → IsOfItsKind (stands m) leaves a u
    lean_kinds a u e =
        let at = found m ok a u e in
        subst (λ (ls : List Leaf). IsOfItsKind (stands m) ls a u) (sym (heads_leaves m)) (kind_by at.index a u at.below at.first at.unit)

    lean_called : may_be_entered m.layout.profile.callee_saves (stands m) leaves (entry_arrival m) ≡ true
    lean_called =
        ap (λ (callee : Bool). may_be_entered callee (stands m) leaves (entry_arrival m)) (ok.saves ∙ lean)
        ∙ ap (λ (ls : List Leaf). may_be_called (stands m) ls (entry_arrival m)) (heads_leaves m)
        ∙ callable m ok lean m.layout.entry ok.entry_there
        (or_left (m.layout.entry == m.layout.entry) _ (eq-eqb m.layout.entry m.layout.entry refl))

    -- a class's target is in no leaf
    pub lean_saved : (k : ℕ) → k < count m.layout.program → is_target m.layout.closed.sides k ≡ true → not (is_fresh (stands m) leaves (gate m.layout k)) ≡ true
    lean_saved k below target =
        let first = entered_first m ok.groups k (target_entered m k target) in
        let outside = false_from_ne_true (in_leaf (entered_in m.layout) k)
        (λ inside. true≢false (sym target ∙ in_leaf_untargeted (entered_in m.layout) k inside)) in
        ap (λ (ls : List Leaf). not (is_fresh (stands m) ls (gate m.layout k))) (heads_leaves m) ∙ ap not (gate_fresh m ok lean k below first ∙ outside)

  pub of_kind : (a : ℕ) (u : U.Unit) → stands m a ≡ Some u → IsOfItsKind (stands m) leaves a u
  of_kind a u e =
      elim (cases_Bool (has_leaves m.layout.closed.version)) [
        | inl lean ↦ lean_kinds lean a u e
        | inr plain ↦ full_kinds plain a u e
      ]

  pub entry_called : may_be_entered m.layout.profile.callee_saves (stands m) leaves (entry_arrival m) ≡ true
  entry_called =
      elim (cases_Bool (has_leaves m.layout.closed.version)) [
        | inl lean ↦ lean_called lean
        | inr plain ↦ full_called plain
      ]

  pub target_saved : (k : ℕ) → k < count m.layout.program → is_target m.layout.closed.sides k ≡ true → not (is_fresh (stands m) leaves (gate m.layout k)) ≡ true
  target_saved k below target =
      elim (cases_Bool (has_leaves m.layout.closed.version)) [
        | inl lean ↦ lean_saved lean k below target
        | inr plain ↦ full_saved plain (gate m.layout k)
      ]
