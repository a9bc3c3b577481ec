use Rattle.std.proofs.Common.{arith}
use Rattle.cfi_compare.proofs.ProgramRuns.{at_start, came_next, came_over, counts_one, finished_own}
use Rattle.cfi_compare.proofs.source.finish.Goals as goal

pub loop-source-init : goal.loop-source-init
loop-source-init c = record { few = omega (arith, c.requires.fresh); came = at_start c.args.source.now c.requires.fresh }

pub returns-then-not-goes_on-clause-finished : goal.returns-then-not-goes_on-clause-finished
returns-then-not-goes_on-clause-finished c =
    came_over c.args.source.now c.loop-source.source c.loop-source.invariant.came c.args.limit c.step.new.self c.in_ok-turn.turn
    (omega (arith, c.loop-source-test.true)) c.in_ok-turn.ensures.stepped (λ is. let goes = c.goes_on.ensures.1 is in let stops = c.if-not-goes_on.true in absurd (cc))

pub returns-then-not-goes_on-clause-own : goal.returns-then-not-goes_on-clause-own
returns-then-not-goes_on-clause-own c =
    finished_own c.args.source.now c.step.new.self c.args.limit c.in_ok-turn.turn (returns-then-not-goes_on-clause-finished c)

pub loop-source-preserved : goal.loop-source-preserved
loop-source-preserved c =
    let is = c.goes_on.ensures.0 c.if-not-goes_on.false in
    let next = came_next c.args.source.now c.loop-source.source c.loop-source.invariant.came c.step.new.self c.in_ok-turn.turn c.in_ok-turn.ensures.stepped is in
    let steps = counts_one c.in_ok-turn.turn c.loop-source.source.steps is in
    record { few = omega (arith, steps, c.in_ok-turn.ensures.stepped.steps, c.loop-source-test.true); came = next }
