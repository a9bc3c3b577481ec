use Rattle.cfi_pending.proofs.KindSteps as proof
use Rattle.cfi_pending.proofs.laws.may_stand_there.Goals as goal

pub returns : goal.returns
returns c = proof.may_stand_there
