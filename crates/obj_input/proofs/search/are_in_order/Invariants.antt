use Rattle.obj_input.specs.InOrder.{AreFirst}
use Rattle.obj_input.proofs.search.are_in_order.Given as goal

abbrev pub invariant-loop-u : goal.invariant-loop-u
invariant-loop-u l = AreFirst l.uses l.u-index l.last
