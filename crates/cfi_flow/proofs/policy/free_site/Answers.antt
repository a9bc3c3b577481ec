use Rattle.std.proofs.Common.{sym}
use Rattle.cfi_flow.proofs.Judged.{named_there}
use Rattle.cfi_flow.proofs.policy.free_site.Goals as goal

pub item-requires : goal.item-requires
item-requires c = named_there c.args.items.now c.args.line.now.site c.in_ok-k.k (sym c.in_ok-k.ensures)
