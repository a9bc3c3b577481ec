use Rattle.std.proofs.Common.{◌≡◌, ◌++◌, drop}
use Rattle.tool_report.specs.ReportText.{walks_text}
use Rattle.tool_report.proofs.report.push_plain_walks.Given as goal

abbrev pub invariant-loop-told : goal.invariant-loop-told
invariant-loop-told l = l.text.items ++ walks_text (drop l.told-index l.walks) ≡ l.initial.text.items ++ walks_text l.walks
