use Rattle.cfi_class.specs.Passes.{AreNumbers}
use Rattle.cfi_class.proofs.passes.numbers_of.Given as goal

abbrev pub invariant-loop-k : goal.invariant-loop-k
invariant-loop-k l = AreNumbers l.sets l.targets l.k l.numbers.items
