use Rattle.std.proofs.Common.{◌≡◌}
use Rattle.obj_input.specs.Listed.{listed}
use Rattle.obj_join.specs.Definer.{resolved}
use Rattle.obj_join.proofs.definers.Definers.all_resolved.Given as goal

abbrev pub invariant-loop-number : goal.invariant-loop-number
invariant-loop-number l = l.numbers.items ≡ listed (resolved l.self) l.number
