use Rattle.std.proofs.Common.{◌∙◌, sym}
use Rattle.tool_report.proofs.PartsInTurn.{left_here, next_hart, no_hart}
use Rattle.tool_report.proofs.report.push_hart_walks.Goals as goal

pub loop-hart-preserved : goal.loop-hart-preserved
loop-hart-preserved c =
    let left = left_here c.args.walks.now c.loop-hart.hart c.index-walks-hart.result c.loop-hart-test.true c.index-walks-hart.is in
    next_hart c.loop-hart.text.items _ c.args.walks.now c.loop-hart.hart c.index-walks-hart.result left c.in_ok-push_hart_walk.ensures
    ∙ c.loop-hart.invariant

pub returns : goal.returns
returns c = sym (no_hart c.loop-hart.text.items c.args.walks.now c.loop-hart.hart c.loop-hart-test.false) ∙ c.loop-hart.invariant
