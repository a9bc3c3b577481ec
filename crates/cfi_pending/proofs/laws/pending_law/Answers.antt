use Rattle.cfi_pending.proofs.Law as proof
use Rattle.cfi_pending.proofs.laws.pending_law.Goals as goal

pub returns : goal.returns
returns c = proof.pending_law
