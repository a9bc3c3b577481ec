use Rattle.cfi_confined.proofs.Told.{pending_told}
use Rattle.cfi_confined.proofs.laws.pending_is_told.Goals as goal

pub returns : goal.returns
returns c = pending_told
