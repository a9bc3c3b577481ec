use Rattle.std.proofs.Common.{◌≡◌, ◌++◌, drop}
use Rattle.tool_report.specs.ReportText.{hart_walks_text}
use Rattle.tool_report.proofs.report.push_hart_walks.Given as goal

abbrev pub invariant-loop-hart : goal.invariant-loop-hart
invariant-loop-hart l = l.text.items ++ hart_walks_text l.hart (drop l.hart l.walks) ≡ l.initial.text.items ++ hart_walks_text 0 l.walks
