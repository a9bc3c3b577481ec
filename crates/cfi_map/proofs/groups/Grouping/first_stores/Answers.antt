use Rattle.std.proofs.Common.{ap, arith}
use Rattle.std.specs.Prelude.{not}
use Rattle.cfi_map.proofs.Prelude.{item_of, whole_at}
use Rattle.cfi_map.proofs.Greedy.{before_most, firsts_begin, firsts_end, firsts_more}
use Rattle.cfi_map.proofs.groups.Grouping.first_stores.Goals as goal

pub loop-k-init : goal.loop-k-init
loop-k-init c = firsts_begin c.args.self.now c.new-firsts.result.items c.new-firsts.ensures.items

pub may_join-first-requires-clause-inside : goal.may_join-first-requires-clause-inside
may_join-first-requires-clause-inside c =
    let most = before_most (item_of c.args.self.now.program) (whole_at c.loop-k.firsts.items) c.loop-k.k in
    omega (arith, most, c.loop-k.invariant.before_is)

pub members_after-before-requires-clause-inside : goal.members_after-before-requires-clause-inside
members_after-before-requires-clause-inside c =
    let most = before_most (item_of c.args.self.now.program) (whole_at c.loop-k.firsts.items) c.loop-k.k in
    omega (arith, most, c.loop-k.invariant.before_is)

pub loop-k-preserved : goal.loop-k-preserved
loop-k-preserved c =
    firsts_more c.args.self.now c.loop-k.k c.loop-k.firsts.items c.push.new.self.items c.loop-k.before c.members_after-before.result (not c.may_join-first.result)
    c.loop-k.invariant (ap not c.may_join-first.ensures) c.in_ok-push.ensures.items c.members_after-before.ensures

pub returns : goal.returns
returns c = firsts_end c.args.self.now c.loop-k.k c.loop-k.firsts.items c.loop-k.before (omega (arith, c.count-k-end.ensures)) c.loop-k.invariant
