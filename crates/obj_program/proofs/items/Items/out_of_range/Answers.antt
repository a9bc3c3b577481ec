use Rattle.obj_program.proofs.Ranges.{values_there}
use Rattle.obj_program.proofs.items.Items.out_of_range.Goals as goal

pub first_reloc-reloc-requires : goal.first_reloc-reloc-requires
first_reloc-reloc-requires c =
    values_there c.args.self.now c.args.gates.now c.relocations.result.now c.relocations.ensures.sound c.relocations.ensures.value c.requires.gates
