use Rattle.cfi_meaning.proofs.Kept as proof
use Rattle.cfi_meaning.proofs.laws.meaning_kept.Goals as goal

pub returns : goal.returns
returns c = proof.meaning_kept
