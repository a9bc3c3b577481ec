use Rattle.obj_items.proofs.DataEnds as data_ends
use Rattle.obj_items.proofs.laws.init_reaches_end.Goals as goal

pub returns : goal.returns
returns c = data_ends.init_reaches_end
