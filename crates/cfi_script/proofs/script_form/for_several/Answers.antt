use Rattle.std.proofs.Common.{sym, ◌∙◌}
use Rattle.std.proofs.lemmas.Result.{err_from_is_err_and}
use Rattle.text_lines.specs.Lines.{lines_of}
use Rattle.cfi_script.proofs.ScriptTurns.{second_alone, second_form, second_range, second_right, turns_refused, turns_right}
use Rattle.cfi_script.proofs.script_form.for_several.Goals as goal

pub returns-in_default-clause-exact : goal.returns-in_default-clause-exact
returns-in_default-clause-exact c = second_alone (rw c.in_default.is at c.cut.ensures.parts)

pub returns-in_default-harts_of-clause-exact : goal.returns-in_default-harts_of-clause-exact
returns-in_default-harts_of-clause-exact c =
    second_form c.in-Some.rest.now (rw c.in-Some.is at c.cut.ensures.parts) (sym c.harts_of.ensures ∙ c.in_default-harts_of.is)

pub returns-then-not-is_count-clause-exact : goal.returns-then-not-is_count-clause-exact
returns-then-not-is_count-clause-exact c =
    second_range c.in-Some.rest.now c.in-Some-harts_of.harts (rw c.in-Some.is at c.cut.ensures.parts) (sym c.harts_of.ensures ∙ c.in-Some-harts_of.is) (sym c.is_count.ensures ∙ c.if-not-is_count.true)

pub returns-in_err-number-clause-exact : goal.returns-in_err-number-clause-exact
returns-in_err-number-clause-exact c =
    let p = err_from_is_err_and c.from_residual.result c.from_residual.ensures.1 in
    let right = second_right c.in-Some.rest.now c.in-Some-harts_of.harts (rw c.in-Some.is at c.cut.ensures.parts) (sym c.harts_of.ensures ∙ c.in-Some-harts_of.is) (sym c.is_count.ensures ∙ c.if-not-is_count.false) in
    rw (p.1, p.2, right) (turns_refused c.in-Some-harts_of.harts (lines_of c.in-Some.rest.now) c.in_err-number.field-0.0 c.in_err-number.ensures.read)

pub returns-clause-exact : goal.returns-clause-exact
returns-clause-exact c =
    let right = second_right c.in-Some.rest.now c.in-Some-harts_of.harts (rw c.in-Some.is at c.cut.ensures.parts) (sym c.harts_of.ensures ∙ c.in-Some-harts_of.is) (sym c.is_count.ensures ∙ c.if-not-is_count.false) in
    rw right (turns_right c.in-Some-harts_of.harts (lines_of c.in-Some.rest.now) _ c.with_changes.result c.in_ok-number.ensures.read c.with_changes.ensures.exact)
