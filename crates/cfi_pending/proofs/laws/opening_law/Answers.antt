use Rattle.cfi_pending.proofs.OpeningSteps as proof
use Rattle.cfi_pending.proofs.laws.opening_law.Goals as goal

pub returns : goal.returns
returns c = proof.opening_law
