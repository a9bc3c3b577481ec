use Rattle.cfi_meaning.proofs.Targets as proof
use Rattle.cfi_meaning.proofs.laws.target_bears.Goals as goal

pub returns : goal.returns
returns c = proof.target_bears
