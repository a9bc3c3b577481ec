use Rattle.std.proofs.Common.{◌≡◌, ◌∙◌, sym, subst, Some}
use Rattle.std.proofs.lemmas.Option.{same_Some}
use Rattle.cfi_unit.specs.declared.unit.Unit as U
use Rattle.cfi_unit.specs.UnitWords.{Begins}
use Rattle.cfi_unit.proofs.Found.{kind_read}
use Rattle.cfi_emit.proofs.recogniser.unit_of_kind.Goals as goal

pub returns-in_err-unit-clause-none : goal.returns-in_err-unit-clause-none
returns-in_err-unit-clause-none c = λ none u b e.
    let some = sym c.in_err-unit.was ∙ c.read.ensures ∙ kind_read c.args.end c.args.words.now c.args.at u b e in
    absurd (cc)

pub returns-else-begins-clause-none : goal.returns-else-begins-clause-none
returns-else-begins-clause-none c = λ none u b e.
    let some : Some c.in_ok-unit.unit ≡ Some u =
    sym c.in_ok-unit.was ∙ c.read.ensures ∙ kind_read c.args.end c.args.words.now c.args.at u b e in
    let same = same_Some c.in_ok-unit.unit u some in
    let yes = c.begins.ensures.1 (subst (λ (v : U.Unit). Begins c.args.words.now c.args.at v) (sym same) b) in
    let no = c.if-begins.false in
    absurd (cc)
