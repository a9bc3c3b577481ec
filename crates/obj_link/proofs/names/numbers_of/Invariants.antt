use Rattle.std.proofs.Common.{take}
use Rattle.obj_link.proofs.Prelude.{AreNumbers, names_of, said_by}
use Rattle.obj_link.proofs.names.numbers_of.Given as goal

abbrev pub invariant-loop-object : goal.invariant-loop-object
invariant-loop-object l = AreNumbers l.texts l.numbers.items (names_of (said_by (take l.object-index l.objects)).symbols)
