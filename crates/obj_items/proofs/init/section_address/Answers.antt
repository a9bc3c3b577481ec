use Rattle.std.proofs.Common.{◌∙◌}
use Rattle.obj_items.proofs.Addresses.{section_read}
use Rattle.obj_items.proofs.init.section_address.Goals as goal

pub returns-clause-value : goal.returns-clause-value
returns-clause-value c = c.section.ensures.value ∙ section_read c.args.input.now c.args.layout.now c.args.k c.requires
