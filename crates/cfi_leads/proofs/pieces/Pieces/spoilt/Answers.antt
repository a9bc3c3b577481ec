use Rattle.std.proofs.Common.{arith, rules}
use Rattle.cfi_leads.proofs.Spoiling.{all_spoilt, none_spoilt, one_more_spoilt}
use Rattle.cfi_leads.proofs.pieces.Pieces.spoilt.Goals as goal

pub loop-k-init : goal.loop-k-init
loop-k-init c = none_spoilt c.args.self.now c.count-count.result c.in_ok-spoilt.spoilt.items c.count-count.ensures.value (search rules)

pub loop-k-preserved : goal.loop-k-preserved
loop-k-preserved c =
    one_more_spoilt c.args.self.now c.loop-k.k c.loop-k.spoilt.items c.spoil.new.spoilt.items (omega (arith, c.count-count.ensures.value))
    c.loop-k.invariant c.spoil.ensures.counted c.spoil.ensures.each

pub returns : goal.returns
returns c = all_spoilt c.args.self.now c.loop-k.k c.count-count.result c.loop-k.spoilt.items c.count-count.ensures.value (omega arith) c.loop-k.invariant
