use Rattle.cfi_writer.proofs.WholeCode.{written_well_formed}
use Rattle.cfi_writer.proofs.laws.written_is_well_formed.Goals as goal

pub returns : goal.returns
returns c = written_well_formed
