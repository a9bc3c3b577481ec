use Rattle.std.proofs.Common.{◌∙◌, sym}
use Rattle.obj_join.specs.Blocks.{block_of, blocks_below, has_block}
use Rattle.obj_join.specs.Numbers.{by}
use Rattle.obj_join.proofs.Chosen.{chosen_next, chosen_none, chosen_passed}
use Rattle.obj_join.proofs.Merged.{block_is}
use Rattle.obj_join.proofs.common.kept.Goals.{then-has_block+in_ok-push, else-has_block}
use Rattle.obj_join.proofs.common.kept.Goals as goal

pub loop-number-init : goal.loop-number-init
unfolding blocks_below
loop-number-init c =
    c.new-blocks.ensures.items
    ∙ sym (chosen_none (has_block (by c.args.numbers.now) c.args.symbols.now) (block_of (by c.args.numbers.now) c.args.symbols.now))

pub loop-number-preserved : goal.loop-number-preserved
unfolding blocks_below
loop-number-preserved c = elim c.if-has_block.branch [
  | then-has_block+in_ok-push w ↦
      rw w.blocks-is
      (w.in_ok-push.ensures.items
      ∙ chosen_next (has_block (by c.args.numbers.now) c.args.symbols.now) (block_of (by c.args.numbers.now) c.args.symbols.now) c.loop-number.number _ _
      c.loop-number.invariant (sym c.has_block.ensures ∙ w.if-has_block.true)
      (block_is (by c.args.numbers.now) c.args.symbols.now c.args.merged.now c.loop-number.number _ c.requires.merged c.loop-number-test.true))
  | else-has_block w ↦
      rw w.blocks-is
      (chosen_passed (has_block (by c.args.numbers.now) c.args.symbols.now) (block_of (by c.args.numbers.now) c.args.symbols.now) c.loop-number.number _
      c.loop-number.invariant (sym c.has_block.ensures ∙ w.if-has_block.false))
]
