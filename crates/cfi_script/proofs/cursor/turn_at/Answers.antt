use Rattle.std.proofs.Common.{◌+◌, ℕ, arith, subst}
use Rattle.cfi_script.specs.TurnPlace.{ComesAfter}
use Rattle.cfi_script.proofs.TurnPlaces.{here, next_turn, past}
use Rattle.cfi_script.proofs.cursor.turn_at.Goals as goal

pub returns-then-index-turns-clause-turn : goal.returns-then-index-turns-clause-turn
returns-then-index-turns-clause-turn c = record {
  within = c.requires.within;
  after = c.requires.after;
  own = λ step from below. here c.args.turns.now c.args.index c.args.before c.requires.after step from c.if-index-turns.true (omega (arith, below, c.saturating_add.ensures));
  next = λ there fits. subst (λ (n : ℕ). ComesAfter c.args.turns.now (c.args.index + 1) n) (omega (arith, fits, c.saturating_add.ensures))
      (next_turn c.args.turns.now c.args.index c.args.before c.requires.after there);
}

pub returns-else-index-turns-clause-turn : goal.returns-else-index-turns-clause-turn
returns-else-index-turns-clause-turn c = record {
  within = c.requires.within;
  after = c.requires.after;
  own = λ step from below. past c.args.turns.now c.args.index c.args.before c.requires.after step from (omega (arith, c.if-index-turns.false));
  next = λ there fits. absurd (omega (arith, there, c.if-index-turns.false));
}
