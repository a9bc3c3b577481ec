use Rattle.std.proofs.Common.{◌≡◌, ◌++◌, drop}
use Rattle.tool_report.specs.ReportText.{trail_text}
use Rattle.tool_report.proofs.report.push_trail.Given as goal

abbrev pub invariant-loop-address : goal.invariant-loop-address
invariant-loop-address l = l.text.items ++ trail_text (drop l.address-index l.trail) ≡ l.initial.text.items ++ trail_text l.trail
