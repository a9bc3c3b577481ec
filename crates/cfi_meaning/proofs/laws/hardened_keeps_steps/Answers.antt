use Rattle.cfi_meaning.proofs.Hardened as proof
use Rattle.cfi_meaning.proofs.laws.hardened_keeps_steps.Goals as goal

pub returns : goal.returns
returns c = proof.hardened_keeps_steps
