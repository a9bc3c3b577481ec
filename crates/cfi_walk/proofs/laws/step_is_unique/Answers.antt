use Rattle.cfi_walk.proofs.Unique.{one_step}
use Rattle.cfi_walk.proofs.laws.step_is_unique.Goals as goal

pub returns : goal.returns
returns c = one_step
