-- Units of code whose callers save sites are of their kinds where no leaf is given: each start is saved.
use Rattle.std.proofs.Common.{◌≡◌, ℕ, ◌+◌, inl, inr, true, false, List, [], refl, sym, ap, subst, ◌∙◌, Option, Some, None}
use Rattle.std.specs.Prelude.{not, ◌&&◌, slice_get}
use Rattle.std.proofs.lemmas.Bool.{and_parts, and_right, or_from, or_right}
use Rattle.rv_image.specs.declared.version.GraphVersion.{GraphVersion}
use Rattle.rv_word.proofs.Cases.{cases_Option}
use Rattle.cfi_graph.specs.Graph.{has_leaves}
use Rattle.cfi_unit.specs.declared.unit.Unit as U
use Rattle.cfi_unit.specs.declared.unit.Unit.TheVariants as V
use Rattle.cfi_unit.specs.Flow.{flow_of}
use Rattle.cfi_unit.specs.Templates.{is_full}
use Rattle.cfi_unit.specs.UnitWords.{after_unit}
use Rattle.cfi_pending.specs.Kinds.{IsOfItsKind, Leaf, is_enter, is_fresh, is_gate, is_gate_there, is_right_target, stands_by}
use Rattle.cfi_pending.specs.StartLaw.{stands_in}
use Rattle.cfi_rules.specs.Rules.{admits, is_of_version, may_call, test_is_of_version}

full_stands : (u : U.Unit) → is_full u ≡ true → stands_by None u ≡ true
full_stands V.Enter full = absurd (cc)
full_stands V.LeafReturn full = absurd (cc)
full_stands other full = refl

full_enters : (u : U.Unit) → is_full u ≡ true → is_enter (Some u) ≡ false
full_enters V.Enter full = absurd (cc)
full_enters other full = refl

-- what a graph without leaves admits is such a unit
pub admits_full : (version : GraphVersion) (calls : Option (List ℕ)) (u : U.Unit) → has_leaves version ≡ false → admits version calls u ≡ true → is_full u ≡ true
admits_full version calls u none admitted =
    let parts = and_parts (is_of_version version u) (may_call calls u) admitted in
    sym (ap (λ leaves. stands_in leaves u) none)
    ∙ (and_parts (stands_in (has_leaves version) u) (test_is_of_version version (flow_of u).test (flow_of u).sites) parts.0).0

module _ (unit_at : ℕ → Option U.Unit) (full : (a : ℕ) (u : U.Unit) → unit_at a ≡ Some u → is_full u ≡ true) where
  never_enters : (a : ℕ) → is_enter (unit_at a) ≡ false
  never_enters a =
      elim (cases_Option (unit_at a)) [
        | inl none ↦ ap is_enter none
        | inr (u, e) ↦ ap is_enter e ∙ full_enters u (full a u e)
      ]

  never_fresh : (a : ℕ) → is_fresh unit_at [] a ≡ false
  never_fresh a =
      or_from (is_enter (unit_at a)) (is_gate_there (unit_at a) && is_enter (unit_at (a + 4))) (never_enters a)
      (and_right (is_gate_there (unit_at a)) (is_enter (unit_at (a + 4))) (never_enters (a + 4)))

  pub saved_if_full : (leaves : List Leaf) → leaves ≡ [] → (a : ℕ) → not (is_fresh unit_at leaves a) ≡ true
  saved_if_full leaves none a = ap (λ (ls : List Leaf). not (is_fresh unit_at ls a)) none ∙ ap not (never_fresh a)

  full_target : (a : ℕ) (u : U.Unit) → is_full u ≡ true → is_right_target unit_at [] a (flow_of u).sites (flow_of u).exit ≡ true
  full_target a (V.Branch op rs1 rs2 t) stands = ap not (never_fresh t)
  full_target a (V.Near op rs1 rs2 t) stands = ap not (never_fresh t)
  full_target a (V.Jump t) stands = ap not (never_fresh t)
  full_target a (V.Call t) stands = ap not (never_fresh t)
  full_target a (V.LinkCall t) stands = absurd (cc)
  full_target a other stands = refl

  pub kinds_if_full : (leaves : List Leaf) → leaves ≡ [] → (a : ℕ) (u : U.Unit) → unit_at a ≡ Some u → IsOfItsKind unit_at leaves a u
  kinds_if_full leaves none a u e =
      subst (λ (ls : List Leaf). IsOfItsKind unit_at ls a u) (sym none) (record {
        stands = full_stands u (full a u e);
        behind = λ on. or_right (is_gate u && is_enter (unit_at (a + 4))) (not (is_fresh unit_at [] (after_unit u a))) (ap not (never_fresh (after_unit u a)));
        target = full_target a u (full a u e);
      })
