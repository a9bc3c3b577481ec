use Rattle.std.proofs.lemmas.Result.{err_from_is_err_and}
use Rattle.cfi_policy.proofs.PolicyWords.{head_alone, head_refused, head_right}
use Rattle.cfi_policy.proofs.policy_form.listed_head.Goals as goal

pub returns-in_default : goal.returns-in_default
returns-in_default c = head_alone (rw c.in_default.is at c.cut.ensures.parts)

pub returns-in_err-calls : goal.returns-in_err-calls
returns-in_err-calls c =
    let p = err_from_is_err_and c.from_residual.result c.from_residual.ensures.1 in
    rw (p.1, p.2) (head_refused c.in-Some.rest.now c.judged_calls.result (rw c.in-Some.is at c.cut.ensures.parts) c.judged_calls.ensures c.in_err-calls.field-0.0 c.in_err-calls.was)

pub returns : goal.returns
returns c = head_right c.in-Some.rest.now c.judged_calls.result (rw c.in-Some.is at c.cut.ensures.parts) c.judged_calls.ensures c.in_ok-calls.calls c.in_ok-calls.was
