use Rattle.std.proofs.Common.{◌∙◌}
use Rattle.cfi_starts.proofs.LeafLines.{begins_here}
use Rattle.cfi_starts.proofs.starts.Starts.begins_leaf.Goals as goal

pub returns : goal.returns
returns c = c.begins_leaf_here.ensures ∙ begins_here c.args.address c.args.self.now.graph c.count-count.ensures.graph_is
