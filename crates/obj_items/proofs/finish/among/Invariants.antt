use Rattle.std.proofs.Common.{◌≡◌, map}
use Rattle.obj_items.proofs.Prelude.{among, said_of}
use Rattle.obj_items.proofs.Among.{among_from}
use Rattle.obj_items.proofs.finish.among.Given as goal

abbrev pub invariant-loop-index : goal.invariant-loop-index
invariant-loop-index l = among (map said_of l.objects) l.number ≡ among_from l.index l.objects l.behind
