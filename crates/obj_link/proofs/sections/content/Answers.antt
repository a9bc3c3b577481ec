use Rattle.std.proofs.Common.{ap, length, ◌∙◌}
use Rattle.obj_link.proofs.Whole.{whole}
use Rattle.obj_link.proofs.sections.content.Goals as goal

pub returns-clause-whole : goal.returns-clause-whole
returns-clause-whole c = λ has. ap length c.content.ensures ∙ whole c.args.object.now c.args.k c.sections-count.ensures.sound c.requires has
