use Rattle.std.proofs.Common.{◌-◌, ◌≤◌}
use Rattle.cfi_compare.proofs.ProgramRuns.{Came}
use Rattle.cfi_compare.proofs.source.finish.Given as goal

-- the steps that were taken ran
abbrev pub invariant-loop-source : goal.invariant-loop-source
invariant-loop-source l = record {
  few : l.source.steps ≤ l.limit;
  came : Came l.initial.source l.source;
}

abbrev pub decreases-loop-source : goal.decreases-loop-source
decreases-loop-source l = l.limit - l.source.steps
