use Rattle.std.proofs.Common.{◌^◌, ◌<◌, List, length, subst}
use Rattle.obj_program.specs.declared.item.Item.{Item}
use Rattle.obj_items.proofs.ProgramSound.{program_sound}
use Rattle.obj_items.proofs.ranges.program_is_sound.Goals as goal

pub returns-clause-sound : goal.returns-clause-sound
returns-clause-sound c =
    (program_sound c.args.input.now c.input_fits.ensures c.requires.fit
    (subst (λ (places : List Item). length places < 2 ^ 62) c.requires.places c.are_few.ensures) c.requires.right).0

pub returns-clause-fits : goal.returns-clause-fits
returns-clause-fits c =
    (program_sound c.args.input.now c.input_fits.ensures c.requires.fit
    (subst (λ (places : List Item). length places < 2 ^ 62) c.requires.places c.are_few.ensures) c.requires.right).1
