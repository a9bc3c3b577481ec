use Rattle.std.proofs.Common.{take}
use Rattle.cfi_flow.specs.Spans.{AreEnds}
use Rattle.cfi_flow.proofs.span.ends.Given as goal

abbrev pub invariant-loop-span : goal.invariant-loop-span
invariant-loop-span l = AreEnds l.places (take l.span-index l.spans) l.table.items
