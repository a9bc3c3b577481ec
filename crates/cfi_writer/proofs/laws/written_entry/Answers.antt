use Rattle.cfi_writer.proofs.WholeCode.{written_entry}
use Rattle.cfi_writer.proofs.laws.written_entry.Goals as goal

pub returns : goal.returns
returns c = written_entry
