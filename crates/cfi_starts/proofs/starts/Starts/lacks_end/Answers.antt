use Rattle.std.proofs.Common.{◌∙◌}
use Rattle.cfi_starts.proofs.LeafLines.{ends_here}
use Rattle.cfi_starts.proofs.starts.Starts.lacks_end.Goals as goal

pub returns : goal.returns
returns c = c.lacks_end_here.ensures ∙ ends_here _ c.args.self.now.listing c.args.here.now.address c.args.self.now.graph c.count-count.ensures.graph_is
