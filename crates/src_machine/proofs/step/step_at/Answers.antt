use Rattle.std.proofs.Common.{sym, ◌∙◌}
use Rattle.src_machine.specs.State.{source_in}
use Rattle.src_machine.proofs.Inside.{closed}
use Rattle.src_machine.proofs.step.step_at.Goals as goal

pub returns-in_ok-close-in-None-clause-stepped : goal.returns-in_ok-close-in-None-clause-stepped
returns-in_ok-close-in-None-clause-stepped c =
    closed c.args.placed.now c.args.state.now.place (source_in c.args.state.now) c.close.new.self c.in_ok-close-in-None.field-0 (sym c.in-None.is ∙ c.place.ensures)
    (c.in_ok-close-in-None.ensures.closed c.args.placed.now (sym c.closing.ensures.value))
