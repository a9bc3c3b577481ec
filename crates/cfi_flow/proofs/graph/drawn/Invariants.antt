use Rattle.cfi_flow.specs.Drawn.{IsDrawn}
use Rattle.cfi_flow.proofs.graph.drawn.Given as goal

abbrev pub invariant-loop-k : goal.invariant-loop-k
invariant-loop-k l = IsDrawn l.items l.lines l.k l.drawing
