use Rattle.cfi_meaning.proofs.NeverDiffers as proof
use Rattle.cfi_meaning.proofs.laws.never_differs.Goals as goal

pub returns : goal.returns
returns c = proof.never_differs
