use Rattle.std.proofs.lemmas.Result.{err_from_is_err_and}
use Rattle.cfi_policy.specs.Policy.{policy_begun, policy_of, policy_read}
use Rattle.cfi_policy.proofs.PolicyWords.{part_end, part_whole}
use Rattle.cfi_policy.proofs.policy_form.read_policy.Goals as goal

pub returns-in_err-end : goal.returns-in_err-end
unfolding policy_of
returns-in_err-end c =
    let p = err_from_is_err_and c.from_residual.result c.from_residual.ensures.1 in
    rw (p.1, p.2) (part_end (policy_read c.args.text.now) c.read_policy_part-policy.result.1 (policy_begun c.args.text.now) c.in_err-end.field-0.0 c.read_policy_part-policy.ensures.exact c.in_err-end.was)

pub returns : goal.returns
unfolding policy_of
returns c =
    part_whole (policy_read c.args.text.now) c.read_policy_part-policy.result.1 c.read_policy_part-policy.result.0 (policy_begun c.args.text.now) c.in_ok-end.field-0 c.read_policy_part-policy.ensures.exact c.read_policy_part-policy.ensures.lines c.in_ok-end.was
