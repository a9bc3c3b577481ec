use Rattle.cfi_verify.proofs.Prelude.{Holds, profile_in}
use Rattle.cfi_verify.proofs.RuleOrder.{rules_more}
use Rattle.cfi_verify.proofs.first.first_of_rules.Goals as goal

pub loop-rule-preserved : goal.loop-rule-preserved
loop-rule-preserved c = λ words told.
    rules_more (Holds (profile_in c.args.starts.now) words c.args.starts.now.graph) c.loop-rule.rule-index _ (c.loop-rule.invariant words told) (c.in_default.ensures words told)
