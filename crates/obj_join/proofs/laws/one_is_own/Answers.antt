use Rattle.obj_join.proofs.OneObject.{one_object}
use Rattle.obj_join.proofs.laws.one_is_own.Goals as goal

pub returns : goal.returns
returns c = one_object
