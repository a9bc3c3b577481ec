use Rattle.std.proofs.Common.{arith}
use Rattle.cfi_map.proofs.GroupedSizes.{grouped_end, grouped_more}
use Rattle.cfi_map.proofs.sizes.grouped_sizes.Goals as goal

pub loop-k-preserved : goal.loop-k-preserved
loop-k-preserved c =
    rw c.in_ok-push.ensures.items
    (grouped_more c.args.leads.now c.args.firsts.now c.loop-k.k c.args.leads.now.program.items c.loop-k.sizes.items _ c.part_size.result (omega arith) c.part_size.ensures c.loop-k.invariant)

pub returns : goal.returns
returns c = grouped_end c.args.leads.now c.args.firsts.now c.loop-k.k c.args.leads.now.program.items c.loop-k.sizes.items _ (omega arith) c.loop-k.invariant
