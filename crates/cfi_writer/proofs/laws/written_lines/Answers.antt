use Rattle.cfi_writer.proofs.WholeLines.{written_lines}
use Rattle.cfi_writer.proofs.laws.written_lines.Goals as goal

pub returns : goal.returns
returns c = written_lines
