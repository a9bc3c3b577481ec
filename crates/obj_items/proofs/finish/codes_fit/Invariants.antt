use Rattle.std.proofs.Common.{take}
use Rattle.std.specs.List.{All}
use Rattle.obj_items.proofs.AllFit.{IsSoundObject}
use Rattle.obj_items.proofs.finish.codes_fit.Given as goal

abbrev pub invariant-loop-object : goal.invariant-loop-object
invariant-loop-object l = All IsSoundObject (take l.object-index l.objects)
