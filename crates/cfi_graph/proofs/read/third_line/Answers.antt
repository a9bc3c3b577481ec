use Rattle.std.proofs.Common.{Some, sym, ◌∙◌}
use Rattle.std.proofs.lemmas.Result.{err_from_is_err_and}
use Rattle.text_lines.specs.Lines.{lines_of}
use Rattle.cfi_graph.proofs.Third.{alone, no_list, refused_list, right_list}
use Rattle.cfi_graph.proofs.Whole.{third_ok}
use Rattle.cfi_graph.proofs.read.third_line.Goals as goal

pub returns-in_default-clause-told : goal.returns-in_default-clause-told
returns-in_default-clause-told c = alone (rw c.in_default.is at c.cut.ensures.parts)

pub returns-in_default-calls_of-clause-told : goal.returns-in_default-calls_of-clause-told
returns-in_default-calls_of-clause-told c =
    no_list c.in-Some.rest.now (rw c.in-Some.is at c.cut.ensures.parts) (sym c.in_default-calls_of.is ∙ c.calls_of.ensures)

pub returns-in_err-calls-clause-told : goal.returns-in_err-calls-clause-told
returns-in_err-calls-clause-told c =
    let p = err_from_is_err_and c.from_residual.result c.from_residual.ensures.1 in
    rw (p.1, p.2) (refused_list c.in-Some.rest.now (rw c.in-Some.is at c.cut.ensures.parts) c.in-Some-calls_of.numbers c.judged.result (sym c.in-Some-calls_of.is ∙ c.calls_of.ensures) c.judged.ensures c.in_err-calls.field-0.0 c.in_err-calls.was)

pub returns-clause-told : goal.returns-clause-told
returns-clause-told c =
    right_list c.in-Some.rest.now (rw c.in-Some.is at c.cut.ensures.parts) c.in-Some-calls_of.numbers c.judged.result (sym c.in-Some-calls_of.is ∙ c.calls_of.ensures) c.judged.ensures c.in_ok-calls.calls c.in_ok-calls.was

pub returns-clause-allowed : goal.returns-clause-allowed
returns-clause-allowed c =
    (third_ok _ (record { calls = Some c.in_ok-calls.calls; lines = lines_of c.in-Some.rest.now }) (right_list c.in-Some.rest.now (rw c.in-Some.is at c.cut.ensures.parts) c.in-Some-calls_of.numbers c.judged.result (sym c.in-Some-calls_of.is ∙ c.calls_of.ensures) c.judged.ensures c.in_ok-calls.calls c.in_ok-calls.was)).may
