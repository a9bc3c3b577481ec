use Rattle.std.proofs.Common.{◌∙◌, [], refl}
use Rattle.obj_items.specs.Bare.{listed_relocs}
use Rattle.obj_items.proofs.Data.{section_listed}
use Rattle.obj_items.proofs.Steps.{joined_begins}
use Rattle.obj_items.proofs.relocs.all_relocs.Goals as goal

pub loop-section-init : goal.loop-section-init
loop-section-init c = (refl, c.new-relocs.ensures.items ∙ joined_begins (listed_relocs c.args.input.now c.args.places.now []))

pub loop-section-preserved : goal.loop-section-preserved
loop-section-preserved c =
    section_listed c.args.input.now c.args.places.now c.loop-section.yielded c.loop-section.k c.in-Some.section _ _ c.loop-section.invariant.0 c.loop-section.invariant.1
    c.in_ok-push_section.ensures
