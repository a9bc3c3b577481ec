use Rattle.std.proofs.Common.{◌∙◌}
use Rattle.obj_check.proofs.Named.{one_of_four}
use Rattle.obj_check.proofs.reserved.some_reserved.Goals as goal

pub returns : goal.returns
returns c = c.names_one_of_four.ensures ∙ one_of_four c.args.instr.now
