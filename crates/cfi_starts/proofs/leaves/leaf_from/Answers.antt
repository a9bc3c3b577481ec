use Rattle.std.proofs.Common.{◌∙◌, arith, sym}
use Rattle.cfi_starts.proofs.LeafLines.{all_past, is_here, past_more}
use Rattle.cfi_starts.proofs.leaves.leaf_from.Goals as goal

pub loop-index-preserved : goal.loop-index-preserved
loop-index-preserved c = past_more _ c.args.address c.loop-index.index _ c.loop-index.invariant c.line-line.ensures (sym c.is_past.ensures ∙ c.if-not-is_past.false)

pub returns-then-not-is_past : goal.returns-then-not-is_past
returns-then-not-is_past c =
    c.leaf_in.ensures
    ∙ is_here _ c.args.address c.loop-index.index c.loop-index.invariant c.requires.ordered c.line-line.result.now c.line-line.ensures (sym c.is_past.ensures ∙ c.if-not-is_past.true)

pub returns : goal.returns
returns c = all_past _ c.args.address c.loop-index.index c.loop-index.invariant (omega arith)
