use Rattle.cfi_runs.proofs.GroupStores as proof
use Rattle.cfi_runs.proofs.laws.group_is_one_step.Goals as goal

pub returns : goal.returns
returns c = proof.group_is_one_step
