use Rattle.std.proofs.Common.{arith, ap, rules}
use Rattle.obj_program.specs.declared.item.Item.{Item}
use Rattle.cfi_map.proofs.DirectTargets.{marked_begin, marked_end, marked_more, target_inside}
use Rattle.cfi_map.proofs.groups.direct_targets.Goals as goal

pub loop-k-init : goal.loop-k-init
loop-k-init c = marked_begin c.args.items.now c.count-count.result c.in_ok-flags.flags.items c.count-count.ensures.value (search rules)

pub mark-requires : goal.mark-requires
mark-requires c =
    rw c.item.ensures (target_inside c.args.items.now c.loop-k.k _ c.count-count.ensures.sound (omega (arith, c.count-count.ensures.value)) c.loop-k.invariant.size)

pub loop-k-preserved : goal.loop-k-preserved
loop-k-preserved c =
    marked_more c.args.items.now c.loop-k.k c.loop-k.flags.items c.mark.new.flags.items c.item.result.target c.count-count.ensures.sound
    (omega (arith, c.count-count.ensures.value)) (ap (λ (i : Item). i.target) c.item.ensures) c.mark.ensures c.loop-k.invariant

pub returns : goal.returns
returns c = marked_end c.args.items.now c.loop-k.k c.loop-k.flags.items (omega (arith, c.count-count.ensures.value)) c.loop-k.invariant
