use Rattle.std.proofs.Common.{sym, ◌∙◌}
use Rattle.cfi_script.proofs.ScriptTurns.{turn_first}
use Rattle.cfi_script.proofs.script_turns.first_turn.Goals as goal

pub returns-clause-turn : goal.returns-clause-turn
returns-clause-turn c = turn_first c.in_ok-rest.rest.now (rw c.in_ok-rest.was at c.cut.ensures.parts) (sym c.turn_of.ensures ∙ c.in_ok-turn.was)
