use Rattle.std.proofs.Common.{◌≡◌}
use Rattle.obj_input.specs.Listed.{listed}
use Rattle.obj_join.specs.Definer.{own}
use Rattle.obj_join.proofs.own.own_numbers.Given as goal

abbrev pub invariant-loop-number : goal.invariant-loop-number
invariant-loop-number l = l.numbers.items ≡ listed (own l.symbols) l.number
