use Rattle.std.proofs.Common.{take}
use Rattle.cfi_flow.specs.Spans.{AreSpans}
use Rattle.cfi_flow.proofs.span.covered_by_each.Given as goal

abbrev pub invariant-loop-j : goal.invariant-loop-j
invariant-loop-j l = AreSpans l.items (take l.j l.items.funcs) l.spans.items
