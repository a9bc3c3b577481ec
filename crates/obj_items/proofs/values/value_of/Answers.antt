use Rattle.std.proofs.Common.{w64, ◌∙◌}
use Rattle.std.proofs.lemmas.Int.{to_z-of_z}
use Rattle.obj_items.proofs.Addresses.{block_read, block_sum}
use Rattle.obj_items.proofs.values.value_of.Goals as goal

pub returns-in-Common : goal.returns-in-Common
returns-in-Common c =
    block_sum c.args.input.now c.args.places.now _ c.args.addend _ _ (to_z-of_z w64 c.args.addend c.ranges.addend) c.in-Common.block c.args.definition
    c.sum-in-Common.ensures (c.block.ensures.value ∙ block_read c.args.input.now c.args.layout.now c.in-Common.block c.requires.layout) c.in-Common.is
