use Rattle.std.proofs.Common.{ap, arith, refl, ℕ, ◌<◌, ◌^◌}
use Rattle.std.specs.Prelude.{is_some}
use Rattle.std.proofs.lemmas.List.Elements.{All-from_get_or}
use Rattle.cfi_unit.specs.Laws.{AreWords}
use Rattle.cfi_unit.proofs.Found.{begins_recognised}
use Rattle.cfi_emit.proofs.KindsTried.{none_begins, none_recognised}
use Rattle.cfi_emit.proofs.recogniser.recognise.Goals as goal

pub returns-in_err-unit-clause-value : goal.returns-in_err-unit-clause-value
returns-in_err-unit-clause-value c =
    let small : AreWords c.args.words.now =
    All-from_get_or (λ (w : ℕ). w < 2 ^ 32) c.args.words.now 0 (λ i inside. omega (arith, c.type_inv.words i)) in
    rw (none_recognised c.args.words.now c.args.at small (c.unit_of_kinds.ensures.none (ap is_some c.in_err-unit.was))) c.from_residual.ensures

pub returns-in_err-unit-clause-none : goal.returns-in_err-unit-clause-none
returns-in_err-unit-clause-none c = λ none. none_begins c.args.words.now c.args.at (c.unit_of_kinds.ensures.none (ap is_some c.in_err-unit.was))

pub returns-clause-value : goal.returns-clause-value
returns-clause-value c =
    rw (begins_recognised c.args.words.now c.args.at c.in_ok-unit.unit c.in_ok-unit.ensures.found, c.count-words.ensures.value) refl
