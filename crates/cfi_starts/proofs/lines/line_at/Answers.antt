use Rattle.std.proofs.Common.{◌∙◌, sym}
use Rattle.cfi_rules.proofs.LineOrder.{line_at-with}
use Rattle.cfi_starts.proofs.lines.line_at.Goals as goal

pub returns : goal.returns
returns c = c.line_with.ensures ∙ sym (line_at-with c.args.graph.now.lines c.args.address)
