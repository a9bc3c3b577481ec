use Rattle.std.proofs.Common.{◌∙◌, sym}
use Rattle.tool_report.specs.ReportText.{walk_text}
use Rattle.tool_report.proofs.PartsInTurn.{left_here, next_part, no_part}
use Rattle.tool_report.proofs.report.push_plain_walks.Goals as goal

pub loop-told-preserved : goal.loop-told-preserved
loop-told-preserved c =
    let left = left_here c.args.walks.now c.loop-told.told-index c.told-item.result c.loop-told-test.true c.told-item.is in
    next_part walk_text c.loop-told.text.items _ c.args.walks.now c.loop-told.told-index c.told-item.result left c.in_ok-push_walk.ensures
    ∙ c.loop-told.invariant

pub returns : goal.returns
returns c = sym (no_part walk_text c.loop-told.text.items c.args.walks.now c.loop-told.told-index c.loop-told-test.false) ∙ c.loop-told.invariant
