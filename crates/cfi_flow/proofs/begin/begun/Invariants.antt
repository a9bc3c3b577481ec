use Rattle.std.proofs.Common.{take}
use Rattle.cfi_flow.specs.Marks.{AreBegun}
use Rattle.cfi_flow.proofs.begin.begun.Given as goal

abbrev pub invariant-loop-j : goal.invariant-loop-j
invariant-loop-j l = AreBegun l.items (take l.j l.items.funcs) l.marks.items
