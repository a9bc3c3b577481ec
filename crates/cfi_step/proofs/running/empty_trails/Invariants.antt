use Rattle.std.proofs.Common.{◌≡◌, [], length}
use Rattle.std.specs.List.{All}
use Rattle.cfi_step.specs.Trail.{IsTrailOf}
use Rattle.cfi_step.proofs.running.empty_trails.Given as goal

abbrev pub invariant-loop : goal.invariant-loop
invariant-loop l = record {
  count : length l.trails.items ≡ l.counter;
  empty : All (IsTrailOf []) l.trails.items;
}
