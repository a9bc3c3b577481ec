use Rattle.std.proofs.Common.{length}
use Rattle.cfi_writer.proofs.WholeImage.{is_graph}
use Rattle.cfi_writer.proofs.chosen.Chosen.graph_of.Goals as goal

pub graph-requires : goal.graph-requires
graph-requires c = is_graph c.args.self.now (length c.args.code.now) c.count-count.ensures.accepted c.requires.size
