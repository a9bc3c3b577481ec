use Rattle.std.proofs.Common.{◌≡◌, ◌≤◌}
use Rattle.obj_input.specs.Listed.{listed}
use Rattle.obj_join.specs.Numbers.{before, by}
use Rattle.obj_join.proofs.common.places.Given as goal

abbrev pub invariant-loop-number : goal.invariant-loop-number
invariant-loop-number l =
    (l.places.items ≡ listed (before (by l.numbers) l.symbols) l.number) × (l.count ≡ before (by l.numbers) l.symbols l.number) × (l.count ≤ l.number)
