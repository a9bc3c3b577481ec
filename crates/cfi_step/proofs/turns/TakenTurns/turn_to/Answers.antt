use Rattle.std.proofs.Common.{refl}
use Rattle.cfi_step.proofs.TurnsTaken.{takes_other}
use Rattle.cfi_step.proofs.turns.TakenTurns.turn_to.Goals as goal

pub returns-clause-taken : goal.returns-clause-taken
returns-clause-taken c harts len are =
    takes_other harts c.args.self.now _ c.args.hart c.args.step c.requires.other len are (c.in_ok-close.ensures.ended harts len are) refl refl
