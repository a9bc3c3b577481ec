use Rattle.std.proofs.Common.{◌≡◌}
use Rattle.obj_input.specs.Listed.{listed}
use Rattle.obj_join.specs.Stands.{definition}
use Rattle.obj_join.specs.Numbers.{by}
use Rattle.obj_join.proofs.definition.definitions.Given as goal

abbrev pub invariant-loop-number : goal.invariant-loop-number
invariant-loop-number l = l.definitions.items ≡ listed (definition (by l.numbers) l.symbols) l.number-index
