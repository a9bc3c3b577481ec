use Rattle.std.proofs.Common.{◌≡◌}
use Rattle.obj_items.specs.InitialData.{init_below}
use Rattle.obj_items.proofs.init.init.Given as goal

abbrev pub invariant-loop-k : goal.invariant-loop-k
invariant-loop-k l = l.init ≡ init_below l.input l.k
