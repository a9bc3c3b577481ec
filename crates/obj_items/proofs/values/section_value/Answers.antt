use Rattle.std.proofs.Common.{w64, ◌∙◌}
use Rattle.std.proofs.lemmas.Int.{to_z-of_z}
use Rattle.obj_items.proofs.Addresses.{section_read, section_sum}
use Rattle.obj_items.proofs.values.section_value.Goals as goal

pub returns-else-is_code : goal.returns-else-is_code
returns-else-is_code c =
    section_sum c.args.input.now c.args.places.now _ c.args.addend _ _ (to_z-of_z w64 c.args.addend c.ranges.addend) c.args.section c.args.value _
    c.sum.ensures c.from-value.ensures
    (c.section.ensures.value ∙ section_read c.args.input.now c.args.layout.now c.args.section c.requires.layout) c.if-is_code.ensures
