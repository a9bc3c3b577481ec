use Rattle.src_machine.specs.Placed.{AreRead}
use Rattle.src_machine.proofs.begin.code.Given as goal

abbrev pub invariant-loop-k : goal.invariant-loop-k
invariant-loop-k l = AreRead l.mapped l.k l.code.items
