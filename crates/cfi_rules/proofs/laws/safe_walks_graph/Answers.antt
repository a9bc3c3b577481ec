use Rattle.cfi_rules.proofs.Walks.{safe_walks}
use Rattle.cfi_rules.proofs.laws.safe_walks_graph.Goals as goal

pub returns : goal.returns
returns c = safe_walks
