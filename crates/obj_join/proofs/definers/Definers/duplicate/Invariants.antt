use Rattle.std.proofs.Common.{◌≡◌, None}
use Rattle.least.specs.First.{first_below}
use Rattle.obj_join.specs.Duplicate.{is_second}
use Rattle.obj_join.proofs.definers.Definers.duplicate.Given as goal

abbrev pub invariant-loop-number : goal.invariant-loop-number
invariant-loop-number l = first_below (is_second l.self) l.number ≡ None
