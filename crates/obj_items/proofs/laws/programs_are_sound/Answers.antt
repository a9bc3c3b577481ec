use Rattle.obj_items.proofs.ProgramSound.{program_sound}
use Rattle.obj_items.proofs.laws.programs_are_sound.Goals as goal

pub returns : goal.returns
returns c = program_sound
