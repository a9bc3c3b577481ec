use Rattle.std.proofs.Common.{arith, ◌∙◌}
use Rattle.obj_input.specs.DataLayout.{block_address}
use Rattle.obj_input.proofs.Reach.{blocks_begin, block_read, blocks_next, block_address_is, listed_begins, listed_next, none_small, small_next}
use Rattle.obj_input.proofs.layout.placed_blocks.Goals as goal

pub loop-block-init : goal.loop-block-init
loop-block-init c = (
  c.requires.start ∙ blocks_begin c.args.input.now,
  omega arith,
  c.new-addresses.ensures.items ∙ listed_begins (block_address c.args.input.now),
  none_small _ c.new-addresses.ensures.items,
)

pub loop-block-preserved : goal.loop-block-preserved
loop-block-preserved c =
    let read = block_read c.args.input.now c.blocks-block-items.result.now c.loop-block.block-index _ c.blocks-block-items.ensures.value c.loop-block-test.true in (
      blocks_next c.args.input.now c.loop-block.block-index _ _ _ c.loop-block.invariant.0 read c.after-end.ensures.value,
      omega arith,
      listed_next (block_address c.args.input.now) c.loop-block.block-index _ _ _ c.loop-block.invariant.2
          (block_address_is c.args.input.now c.loop-block.block-index _ _ _ c.loop-block.invariant.0 read c.aligned.ensures.value)
          c.in_ok-push.ensures.items,
      small_next _ _ _ c.loop-block.invariant.3 (omega arith) c.in_ok-push.ensures.items,
    )
