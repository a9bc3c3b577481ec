use Rattle.std.proofs.Common.{◌≤◌, ◌-◌, length}
use Rattle.cfi_script.specs.TurnPlace.{ComesAfter}
use Rattle.cfi_script.proofs.cursor.searched.Given as goal

abbrev pub invariant-loop-index : goal.invariant-loop-index
invariant-loop-index l = record {
  after : ComesAfter l.turns l.index l.before;
  reached : l.before ≤ l.step;
  within : l.index ≤ length l.turns;
}

abbrev pub decreases-loop-index : goal.decreases-loop-index
decreases-loop-index l = length l.turns - l.index
