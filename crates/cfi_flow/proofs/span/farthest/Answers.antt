use Rattle.std.proofs.Common.{arith, refl, ◌∙◌}
use Rattle.std.proofs.lemmas.List.{get_or_default}
use Rattle.cfi_flow.proofs.Spanning.{raised_all, raised_begins, raised_more}
use Rattle.cfi_flow.proofs.span.farthest.Goals as goal

pub loop-k-init : goal.loop-k-init
loop-k-init c = raised_begins c.args.ends.items

pub loop-k-preserved : goal.loop-k-preserved
loop-k-preserved c =
    let size = c.loop-k.invariant.size in
    raised_more c.args.ends.items c.loop-k.ends.items _ c.loop-k.k c.loop-k.end c.index.result.now c.greater-end.result (omega arith)
    (c.index.ensures ∙ get_or_default c.loop-k.ends.items c.loop-k.k _ 0 (omega arith)) c.loop-k.invariant c.greater-end.ensures.first
    c.greater-end.ensures.second c.greater-end.ensures.least refl

pub returns : goal.returns
returns c =
    let size = c.loop-k.invariant.size in
    raised_all c.args.ends.items c.loop-k.ends.items c.loop-k.k c.loop-k.end (omega arith) c.loop-k.invariant
