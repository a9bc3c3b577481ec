use Rattle.cfi_flow.proofs.Stepping.{drawn_first}
use Rattle.cfi_flow.proofs.graph.drawn.Goals as goal

pub loop-k-init : goal.loop-k-init
loop-k-init c = drawn_first c.args.items.now c.args.lines.now c.in_ok-drawing.drawing c.in_ok-drawing.ensures.sites c.in_ok-drawing.ensures.of
