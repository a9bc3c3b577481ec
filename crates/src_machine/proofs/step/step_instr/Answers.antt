use Rattle.std.proofs.Common.{sym, ◌∙◌, ap}
use Rattle.src_machine.proofs.Prelude.{Item, is_end}
use Rattle.src_machine.proofs.Inside.{next_there}
use Rattle.src_machine.proofs.step.step_instr.Goals as goal

pub act-requires-clause-place : goal.act-requires-clause-place
act-requires-clause-place c =
    next_there c.args.placed.now c.args.k c.count-count.ensures.last c.requires.place (ap (λ (i : Item). is_end i.kind) (sym c.requires.item) ∙ c.requires.instruction)
