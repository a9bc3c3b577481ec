use Rattle.std.proofs.Common.{◌∙◌, refl}
use Rattle.obj_items.specs.Outline.{section_items}
use Rattle.obj_items.proofs.Steps.{joined_begins, joined_next}
use Rattle.obj_items.proofs.outline.outline_of.Goals as goal

pub loop-k-init : goal.loop-k-init
loop-k-init c = c.requires ∙ joined_begins (section_items c.args.input.now)

pub loop-k-preserved : goal.loop-k-preserved
loop-k-preserved c = joined_next (section_items c.args.input.now) c.loop-k.k _ _ _ c.loop-k.invariant refl c.in_ok-items.ensures
