use Rattle.std.proofs.Common.{arith}
use Rattle.cfi_step.proofs.TurnsTaken.{takes_own}
use Rattle.cfi_step.proofs.turns.TakenTurns.take.Goals as goal

pub returns-else-hart-self-clause-taken : goal.returns-else-hart-self-clause-taken
returns-else-hart-self-clause-taken c harts len are = takes_own harts c.args.self.now c.args.hart (omega (arith, c.if-hart-self.false)) are
