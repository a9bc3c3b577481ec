use Rattle.cfi_writer.proofs.WholeCode.{written_graph}
use Rattle.cfi_writer.proofs.laws.written_is_graph.Goals as goal

pub returns : goal.returns
returns c = written_graph
