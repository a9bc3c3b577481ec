-- The unit that is recognised begins the list.
use Rattle.std.proofs.Common.{◌≡◌, ℕ, ◌<◌, ◌^◌, ap, sym, subst, ◌∙◌, inl, inr, List}
use Rattle.std.specs.Prelude.{Some, option_and_then}
use Rattle.std.proofs.lemmas.List.Elements.{recursion_from_All}
use Rattle.std.proofs.lemmas.Option.{same_Some}
use Rattle.rv_word.proofs.Cases.{cases_Option}
use Rattle.cfi_unit.specs.declared.unit.Unit as U
use Rattle.cfi_unit.specs.UnitWords.{Begins}
use Rattle.cfi_unit.specs.Recognise.{recognised, unit_of}
use Rattle.cfi_unit.specs.FoundShape.{found_shape}
use Rattle.cfi_unit.specs.Shapes.{Shape}
use Rattle.cfi_unit.specs.Laws.{AreWords}
use Rattle.cfi_unit.proofs.Found.{begins_recognised}
use Rattle.cfi_unit.proofs.FoundShapes.{found_begins}

pub recognised_begins : (ws : List ℕ) (at : ℕ) (u : U.Unit) → AreWords ws → recognised ws at ≡ Some u → Begins ws at u
unfolding recognised
recognised_begins ws at u words e =
    elim (cases_Option (found_shape ws at)) [
      | inl none ↦ let bad = ap (option_and_then (λ (s : Shape). unit_of s.end ws at)) (sym none) ∙ e in absurd (cc)
      | inr some ↦
          let (v, (begun, is)) = found_begins ws at some.0 some.1 (recursion_from_All (λ (w : ℕ). w < 2 ^ 32) ws words) in
          subst (λ (w : U.Unit). Begins ws at w) (same_Some v u (sym (begins_recognised ws at v begun) ∙ e)) begun
    ]
