use Rattle.cfi_meaning.proofs.GoesOn as proof
use Rattle.cfi_meaning.proofs.laws.step_goes_on.Goals as goal

pub returns : goal.returns
returns c = proof.step_goes_on
