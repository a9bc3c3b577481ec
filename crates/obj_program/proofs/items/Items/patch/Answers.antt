use Rattle.std.proofs.Common.{ap}
use Rattle.obj_program.specs.declared.item.Item.{Item}
use Rattle.obj_program.proofs.Read.{patch_there}
use Rattle.obj_program.proofs.items.Items.patch.Goals as goal

pub returns-clause-there : goal.returns-clause-there
returns-clause-there c =
    patch_there c.args.self.now c.args.k c.item.result.patch c.count-count.ensures.sound c.requires (ap (λ (i : Item). i.patch) c.item.ensures)
