use Rattle.cfi_pending.proofs.KindSteps as proof
use Rattle.cfi_pending.proofs.laws.kinds_agree.Goals as goal

pub returns : goal.returns
returns c = proof.kinds_agree
