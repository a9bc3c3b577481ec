use Rattle.std.proofs.Common.{arith}
use Rattle.cfi_step.proofs.TurnsTaken.{none_goes_on}
use Rattle.cfi_step.proofs.turns.TakenTurns.close.Goals as goal

pub returns-else-taken-gt0-clause-ended : goal.returns-else-taken-gt0-clause-ended
returns-else-taken-gt0-clause-ended c harts len are = none_goes_on harts c.args.self.now (omega (arith, c.if-taken-gt0.false)) are
