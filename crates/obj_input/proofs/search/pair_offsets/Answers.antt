use Rattle.std.proofs.Common.{◌∙◌, ap}
use Rattle.obj_input.specs.InOrder.{has, is_pair_use}
use Rattle.obj_input.proofs.Standing.{among}
use Rattle.obj_input.proofs.Acting.{pair_is_acting}
use Rattle.obj_input.proofs.search.pair_offsets.Goals as goal

pub returns : goal.returns
returns c = λ at. c.of.ensures at ∙ ap (λ offsets. has offsets at) c.in_ok-offsets.ensures ∙ among is_pair_use pair_is_acting c.args.uses.now at
