use Rattle.cfi_writer.proofs.WholeCode.{written_units}
use Rattle.cfi_writer.proofs.laws.written_units.Goals as goal

pub returns : goal.returns
returns c = written_units
