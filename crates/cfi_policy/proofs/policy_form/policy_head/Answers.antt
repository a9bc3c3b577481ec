use Rattle.std.proofs.Common.{◌∙◌}
use Rattle.std.proofs.lemmas.Bool.{eq-eqb, ne_eqb}
use Rattle.std.proofs.lemmas.Result.{err_from_is_err_and}
use Rattle.text_lines.specs.Lines.{lines_of}
use Rattle.cfi_policy.proofs.PolicyWords.{first_version, head_of, second_version, wrong_name}
use Rattle.cfi_policy.proofs.policy_form.policy_head.Goals as goal

pub returns-in_err-which : goal.returns-in_err-which
returns-in_err-which c =
    let p = err_from_is_err_and c.from_residual.result c.from_residual.ensures.1 in
    rw (p.1, p.2) (wrong_name c.args.text.now c.in_err-which.field-0.0 c.in_err-which.ensures)

pub returns-then-which-eq0 : goal.returns-then-which-eq0
returns-then-which-eq0 c =
    let rest = lines_of c.in_ok-which.rest.now in
    head_of c.args.text.now c.in_ok-which.which rest c.in_ok-which.ensures ∙ first_version c.in_ok-which.which rest (eq-eqb _ 0 c.if-which-eq0.true)

pub returns : goal.returns
returns c =
    let rest = lines_of c.in_ok-which.rest.now in
    rw (head_of c.args.text.now c.in_ok-which.which rest c.in_ok-which.ensures ∙ second_version c.in_ok-which.which rest (ne_eqb _ 0 c.if-which-eq0.false)) c.listed_head.ensures
