use Rattle.cfi_flow.specs.Spans.{IsRaised}
use Rattle.cfi_flow.proofs.span.farthest.Given as goal

abbrev pub invariant-loop-k : goal.invariant-loop-k
invariant-loop-k l = IsRaised l.fn.ends.items l.k l.end l.ends.items
