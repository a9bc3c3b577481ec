use Rattle.cfi_graph.proofs.Laws.{reading}
use Rattle.cfi_graph.proofs.read.read_graph.Goals as goal

pub returns-clause-allowed : goal.returns-clause-allowed
returns-clause-allowed c = (reading c.args.text.now c.graph_in.result c.graph_in.ensures).allowed

pub returns-clause-spelled : goal.returns-clause-spelled
returns-clause-spelled c = (reading c.args.text.now c.graph_in.result c.graph_in.ensures).spelled

pub returns-clause-only : goal.returns-clause-only
returns-clause-only c = (reading c.args.text.now c.graph_in.result c.graph_in.ensures).only
