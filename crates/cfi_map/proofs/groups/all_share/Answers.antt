use Rattle.std.proofs.Common.{arith, sym, ◌∙◌}
use Rattle.cfi_map.proofs.Prelude.{item_of, may_share}
use Rattle.cfi_map.proofs.GroupFacts.{all_end, all_more, all_stop}
use Rattle.cfi_map.proofs.groups.all_share.Goals as goal

pub loop-j-preserved : goal.loop-j-preserved
loop-j-preserved c =
    all_more (may_share (item_of c.args.items.now) c.args.other.base c.args.other.level) c.loop-j.j c.args.k _ (omega arith) c.loop-j.invariant
    (sym c.may_share.ensures ∙ c.if-not-may_share.false)

pub returns-then-not-may_share : goal.returns-then-not-may_share
returns-then-not-may_share c =
    all_stop (may_share (item_of c.args.items.now) c.args.other.base c.args.other.level) c.loop-j.j c.args.k _ (omega arith) c.loop-j.invariant
    (sym c.may_share.ensures ∙ c.if-not-may_share.true)

pub returns : goal.returns
returns c = all_end (may_share (item_of c.args.items.now) c.args.other.base c.args.other.level) c.loop-j.j c.args.k _ (omega arith) c.loop-j.invariant
