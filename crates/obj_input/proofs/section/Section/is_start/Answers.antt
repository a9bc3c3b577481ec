use Rattle.std.proofs.Common.{◌∙◌, sym}
use Rattle.obj_input.proofs.Wholes.{start_parts}
use Rattle.obj_input.proofs.section.Section.is_start.Goals as goal

pub returns-clause-code : goal.returns-clause-code
returns-clause-code c = λ holds. (start_parts c.args.self.now c.args.offset (sym c.is_start_of.ensures ∙ holds)).0

pub returns-clause-inside : goal.returns-clause-inside
returns-clause-inside c = λ holds. (start_parts c.args.self.now c.args.offset (sym c.is_start_of.ensures ∙ holds)).1
