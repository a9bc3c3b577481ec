use Rattle.cfi_pending.proofs.Begins as proof
use Rattle.cfi_pending.proofs.laws.body_begins.Goals as goal

pub returns : goal.returns
returns c = proof.body_begins
