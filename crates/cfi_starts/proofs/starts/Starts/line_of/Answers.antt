use Rattle.cfi_starts.proofs.LeafLines.{none_past}
use Rattle.cfi_starts.proofs.starts.Starts.line_of.Goals as goal

pub returns-else-has_leaves : goal.returns-else-has_leaves
returns-else-has_leaves c = none_past c.args.self.now.graph.lines c.args.address
