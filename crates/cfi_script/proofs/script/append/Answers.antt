use Rattle.std.proofs.Common.{◌∙◌, ◌++◌, ap, map, sym}
use Rattle.std.proofs.lemmas.List.{get_or_default}
use Rattle.cfi_script.proofs.ScriptPlans.{to_end}
use Rattle.cfi_script.proofs.script.append.Goals as goal

pub returns-then-at-step-clause-appended : goal.returns-then-at-step-clause-appended
returns-then-at-step-clause-appended c =
    let at = c.loop-at-item.is ∙ get_or_default c.args.changes.now c.loop-at.at-index c.loop-at-item.result (0, (0, 0)) c.loop-at-test.true in
    let all = to_end c.args.step c.loop-at.at-index c.args.changes.now c.requires.ordered c.requires.from c.loop-at-test.true (λ e. c.if-at-step.true (ap (λ p. p.0) at ∙ e)) in
    c.loop-at.invariant.0 ∙ sym (ap (λ cs. c.args.into.now.items ++ map (λ p. p.1) cs) all)
