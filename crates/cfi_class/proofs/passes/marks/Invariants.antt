use Rattle.cfi_class.proofs.Agreeing.{MarkedBelow}
use Rattle.cfi_class.proofs.passes.marks.Given as goal

abbrev pub invariant-loop-target : goal.invariant-loop-target
invariant-loop-target l = MarkedBelow l.targets l.numbers l.set l.target-index l.marked.items
