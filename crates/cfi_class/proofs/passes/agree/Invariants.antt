use Rattle.cfi_class.proofs.Agreeing.{AgreeBelow}
use Rattle.cfi_class.proofs.passes.agree.Given as goal

abbrev pub invariant-loop-target : goal.invariant-loop-target
invariant-loop-target l = AgreeBelow l.targets l.numbers l.set l.number l.target-index
