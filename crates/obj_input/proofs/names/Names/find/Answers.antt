use Rattle.std.proofs.Common.{◌∙◌, sym}
use Rattle.std.proofs.lemmas.Bool.{eqb-true}
use Rattle.obj_input.proofs.Called.{empty_not_found}
use Rattle.obj_input.proofs.names.Names.find.Goals as goal

pub returns-then-is_empty : goal.returns-then-is_empty
returns-then-is_empty c = empty_not_found c.args.self.now c.args.name.now (eqb-true _ _ (sym c.is_empty.ensures ∙ c.if-is_empty.true))
