use Rattle.std.proofs.Common.{ap, sym, ◌∙◌}
use Rattle.obj_program.specs.declared.item.Item.{Item}
use Rattle.cfi_writer.proofs.Aims.{target_there}
use Rattle.cfi_writer.proofs.chosen.Chosen.target.Goals as goal

pub gate-requires : goal.gate-requires
gate-requires c =
    target_there c.args.self.now.layout.program c.args.k c.in-Some.target c.count-count.ensures.accepted.sound c.requires
    (ap (λ (i : Item). i.target) (sym c.item.ensures) ∙ c.in-Some.is)
