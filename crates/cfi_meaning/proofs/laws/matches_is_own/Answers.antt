use Rattle.cfi_meaning.proofs.Matching as proof
use Rattle.cfi_meaning.proofs.laws.matches_is_own.Goals as goal

pub returns : goal.returns
returns c = proof.matches_is_own
