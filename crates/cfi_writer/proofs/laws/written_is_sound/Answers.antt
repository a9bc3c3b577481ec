use Rattle.cfi_writer.proofs.SoundCode.{written_sound}
use Rattle.cfi_writer.proofs.laws.written_is_sound.Goals as goal

pub returns : goal.returns
returns c = written_sound
