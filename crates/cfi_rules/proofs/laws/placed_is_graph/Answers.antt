use Rattle.cfi_rules.proofs.PlacedGraph.{placed_is_graph}
use Rattle.cfi_rules.proofs.laws.placed_is_graph.Goals as goal

pub returns : goal.returns
returns c = placed_is_graph
