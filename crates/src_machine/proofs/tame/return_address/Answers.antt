use Rattle.std.proofs.Common.{sym, ◌∙◌}
use Rattle.src_machine.proofs.Inside.{returns_nowhere}
use Rattle.src_machine.proofs.tame.return_address.Goals as goal

pub returns-in-None : goal.returns-in-None
returns-in-None c = returns_nowhere c.args.placed.now c.args.state.now.pending c.closing.result (sym c.closing.ensures.value) (sym c.newest.ensures ∙ c.in-None.is)
