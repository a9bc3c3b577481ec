use Rattle.std.proofs.Common.{ap}
use Rattle.obj_input.specs.Input.{Named}
use Rattle.obj_input.proofs.Front.{within_front}
use Rattle.obj_input.proofs.name.Name.within.Goals as goal

pub returns : goal.returns
returns c =
    within_front c.self.inside.rest.now c.front.result.now c.args.self.now.name c.args.most _ c.self.invariant c.front.ensures c.name_at.ensures.value
    (ap (λ (n : Named). n.name) c.self.view_is)
