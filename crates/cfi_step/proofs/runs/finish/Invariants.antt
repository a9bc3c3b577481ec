use Rattle.std.proofs.Common.{◌-◌, ◌≤◌, ◌≡◌, length}
use Rattle.cfi_rules.specs.Rules.{pair_profile}
use Rattle.rv_machine.specs.Harts.{harts_in, harts_share}
use Rattle.cfi_step.specs.Running.{IsReady}
use Rattle.cfi_step.proofs.Stretched.{IsUnderWay}
use Rattle.cfi_step.proofs.runs.finish.Given as goal

abbrev pub invariant-loop-steps : goal.invariant-loop-steps
invariant-loop-steps g l = record {
  ready : IsReady (g.M.Meddler.plan l.meddler) l.steps l.running;
  meddler : l.meddler ≡ l.initial.meddler;
  most : l.running.quiet ≤ l.limit;
  way : IsUnderWay (pair_profile l.checked.image l.checked.graph) l.checked.image (length l.initial.running.machine.resting) (harts_in l.initial.running.machine) (harts_share l.initial.running.machine) l.limit
      (g.M.Meddler.plan l.initial.meddler) l.steps l.running;
}

abbrev pub decreases-loop-steps : goal.decreases-loop-steps
decreases-loop-steps g l = l.limit - l.steps
