use Rattle.obj_items.proofs.ObjectFits.{object_fits}
use Rattle.obj_items.proofs.from_object.code_fits.Goals as goal

pub returns : goal.returns
returns c = object_fits c.args.object.now c.sections-sections.ensures.sound
