use Rattle.std.proofs.Common.{arith}
use Rattle.cfi_writer.proofs.Few.{empty_end, empty_member, empty_passed}
use Rattle.cfi_writer.proofs.numbering.empty_classes.Goals as goal
use Rattle.cfi_writer.proofs.numbering.empty_classes.Goals.{then-is_none, else-is_none}

pub loop-k-preserved : goal.loop-k-preserved
loop-k-preserved c =
    elim c.if-is_none.branch [
      | then-is_none w ↦
          let one = empty_member c.args.side.now.sites c.loop-k.k c.site.result c.site.ensures.value w.if-is_none.ensures in
          record { few = omega (arith, w.count-is, c.loop-k.invariant.few); counted = omega (arith, w.count-is, c.loop-k.invariant.counted, one) }
      | else-is_none w ↦
          let none = empty_passed c.args.side.now.sites c.loop-k.k c.site.result c.site.ensures.value w.if-is_none.ensures in
          record { few = omega (arith, w.count-is, c.loop-k.invariant.few); counted = omega (arith, w.count-is, c.loop-k.invariant.counted, none) }
    ]

pub returns : goal.returns
returns c =
    let none = empty_end c.args.side.now.sites c.loop-k.k (omega arith) in
    omega (arith, none, c.loop-k.invariant.counted)
