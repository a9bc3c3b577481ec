use Rattle.std.proofs.Common.{◌≡◌, ◌-◌, ◌+◌, ℕ, length, refl, suc, sym, ◌∙◌, subst, arith}
use Rattle.rv_machine.specs.Harts.{MachineParts, at_pc}
use Rattle.cfi_step.specs.Stretch.{AreQuiet, IsStaying, with_own}
use Rattle.cfi_step.proofs.Continues.{ran_of}
use Rattle.cfi_step.proofs.Stretched.{in_code, may_fetch, more_quiet, none_quiet, quiet_of, stays_on}
use Rattle.cfi_step.proofs.stretch.take_steps.Goals as goal

pub loop-turn-init : goal.loop-turn-init
loop-turn-init c = record {
  low = omega arith;
  high = c.requires.more;
  current = refl;
  below = c.requires.below;
  room = c.requires.room;
  going = c.requires.going;
  stays = subst (λ (pc : ℕ). IsStaying (length c.args.starts.now) (at_pc c.args.machine.now pc)) (sym c.pc_of_selected-pc.ensures) c.requires.stays;
  quiet = λ p words are running own within.
      let none : 0 ≡ c.args.from - c.args.from = omega arith in
      subst (λ (n : ℕ). AreQuiet p words (with_own running c.args.machine.now c.args.trail.now) n (with_own running (at_pc c.args.machine.now c.pc_of_selected-pc.result) c.args.trail.now)) none
      (none_quiet p words running c.args.machine.now c.args.trail.now c.pc_of_selected-pc.result c.pc_of_selected-pc.ensures);
}

pub take_step-requires-clause-fetch : goal.take_step-requires-clause-fetch
take_step-requires-clause-fetch c =
    let old = c.loop-turn.invariant in
    may_fetch (length c.args.starts.now) (at_pc c.loop-turn.machine c.loop-turn.pc) old.stays old.below

pub take_step-requires-clause-inside : goal.take_step-requires-clause-inside
take_step-requires-clause-inside c =
    let old = c.loop-turn.invariant in
    in_code (length c.args.starts.now) (at_pc c.loop-turn.machine c.loop-turn.pc) old.stays old.below

pub loop-turn-preserved : goal.loop-turn-preserved
loop-turn-preserved c =
    let old = c.loop-turn.invariant in
    let before = at_pc c.loop-turn.machine c.loop-turn.pc in
    let after = at_pc c.take_step.new.machine c.take_step.new.pc in
    let ran = ran_of c.in_ok-turn.turn (sym c.is_stop.ensures ∙ c.if-is_stop.false) in
    let (p, words, are) = c.requires.known in
    let step = rw ran at (c.in_ok-turn.ensures p words are) in
    record {
      low = omega (arith, old.low);
      high = omega (arith, old.high, c.if-steps-until.false);
      current = step.current ∙ old.current;
      below = rw (step.current, step.resting) old.below;
      room = omega (arith, old.room, step.count);
      going = step.going refl;
      stays = stays_on (length c.args.starts.now) before old.stays old.below p words after c.loop-turn.trail c.take_step.new.trail step;
      quiet = λ p words are running own within.
          let step = rw ran at (c.in_ok-turn.ensures p words are) in
          more_quiet p words (with_own running c.args.machine.now c.args.trail.now) (with_own running before c.loop-turn.trail) (with_own running after c.take_step.new.trail)
          (c.loop-turn.steps - c.args.from) (c.loop-turn.steps + 1 - c.args.from) (omega (arith, old.low))
          (old.quiet p words are running own within) (quiet_of p words running before after c.loop-turn.trail c.take_step.new.trail _ (old.current ∙ own) within step);
    }

pub returns-then-is_stop-clause-stops : goal.returns-then-is_stop-clause-stops
returns-then-is_stop-clause-stops c =
    let old = c.loop-turn.invariant in
    let before = at_pc c.loop-turn.machine c.loop-turn.pc in
    let after = at_pc c.take_step.new.machine c.take_step.new.pc in
    λ p words are running own within.
    record {
      n = c.loop-turn.steps - c.args.from;
      pc = c.take_step.new.pc;
      mid = with_own running before c.loop-turn.trail;
      stop = sym c.is_stop.ensures ∙ c.if-is_stop.true;
      taken = omega (arith, old.low);
      most = omega (arith, old.high);
      along = old.quiet p words are running own within;
      last = quiet_of p words running before after c.loop-turn.trail c.take_step.new.trail c.in_ok-turn.turn (old.current ∙ own) within (c.in_ok-turn.ensures p words are);
    }

pub returns-then-steps-until-clause-goes_on : goal.returns-then-steps-until-clause-goes_on
returns-then-steps-until-clause-goes_on c =
    let old = c.loop-turn.invariant in
    let before = at_pc c.loop-turn.machine c.loop-turn.pc in
    let after = at_pc c.take_step.new.machine c.take_step.new.pc in
    let ran = ran_of c.in_ok-turn.turn (sym c.is_stop.ensures ∙ c.if-is_stop.false) in
    λ p words are running own within.
    let step = rw ran at (c.in_ok-turn.ensures p words are) in
    let along = more_quiet p words (with_own running c.args.machine.now c.args.trail.now) (with_own running before c.loop-turn.trail) (with_own running after c.take_step.new.trail)
    (c.loop-turn.steps - c.args.from) (suc (c.loop-turn.steps - c.args.from)) refl
    (old.quiet p words are running own within) (quiet_of p words running before after c.loop-turn.trail c.take_step.new.trail _ (old.current ∙ own) within step) in
    record {
      n = c.loop-turn.steps - c.args.from;
      taken = omega (arith, old.low, c.if-steps-until.true);
      along =
          subst (λ (m : MachineParts). AreQuiet p words (with_own running c.args.machine.now c.args.trail.now) (suc (c.loop-turn.steps - c.args.from)) (with_own running m c.take_step.new.trail)) (sym c.go_to.ensures) along;
    }
