use Rattle.std.proofs.Common.{◌∙◌, sym}
use Rattle.cfi_starts.proofs.LeafLines.{past_more}
use Rattle.cfi_starts.proofs.leaves.line_from.Goals as goal

pub loop-index-preserved : goal.loop-index-preserved
loop-index-preserved c = past_more _ c.args.address c.loop-index.index _ c.loop-index.invariant c.line-line.ensures (sym c.is_past.ensures ∙ c.if-not-is_past.false)
