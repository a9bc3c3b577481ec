use Rattle.std.specs.List.{AllWithin}
use Rattle.obj_items.specs.Ranges.{IsBlock}
use Rattle.obj_items.proofs.ranges.blocks_fit.Given as goal

abbrev pub invariant-loop-block : goal.invariant-loop-block
invariant-loop-block l = AllWithin IsBlock l.blocks 0 l.block-index
