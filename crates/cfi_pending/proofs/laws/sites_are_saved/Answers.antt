use Rattle.cfi_pending.proofs.KindSteps as proof
use Rattle.cfi_pending.proofs.laws.sites_are_saved.Goals as goal

pub returns : goal.returns
returns c = proof.sites_are_saved
