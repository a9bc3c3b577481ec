use Rattle.cfi_meaning.proofs.GroupSteps as proof
use Rattle.cfi_meaning.proofs.laws.group_runs.Goals as goal

pub returns : goal.returns
returns c = proof.group_runs
