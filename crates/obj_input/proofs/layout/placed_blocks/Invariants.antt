use Rattle.std.proofs.Common.{◌≡◌, ◌≤◌, ◌+◌, ◌*◌, ◌^◌}
use Rattle.obj_input.specs.Listed.{listed}
use Rattle.obj_input.specs.InOrder.{AreSmall}
use Rattle.obj_input.specs.DataLayout.{block_address, blocks_reach}
use Rattle.obj_input.proofs.layout.placed_blocks.Given as goal

abbrev pub invariant-loop-block : goal.invariant-loop-block
invariant-loop-block l =
    (l.end ≡ blocks_reach l.input l.block-index) × (l.end ≤ 2 ^ 99 + l.block-index * 2 ^ 65)
    × (l.addresses.items ≡ listed (block_address l.input) l.block-index) × AreSmall l.addresses.items
