use Rattle.cfi_verify.proofs.Prelude.{HoldsEarly, profile_in}
use Rattle.cfi_verify.proofs.RuleOrder.{rules_more}
use Rattle.cfi_verify.proofs.all_hold.prologue_holds.Goals as goal

pub loop-rule-preserved : goal.loop-rule-preserved
loop-rule-preserved c =
    rules_more (HoldsEarly (profile_in c.args.starts.now) c.args.starts.now.listing c.args.starts.now.graph) c.loop-rule.rule-index _ c.loop-rule.invariant
    (c.holds_early.ensures c.if-not-holds_early.false)
