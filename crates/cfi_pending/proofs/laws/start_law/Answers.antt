use Rattle.cfi_pending.proofs.StartSteps as proof
use Rattle.cfi_pending.proofs.laws.start_law.Goals as goal

pub returns : goal.returns
returns c = proof.start_law
