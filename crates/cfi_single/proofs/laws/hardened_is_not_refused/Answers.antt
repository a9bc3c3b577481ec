use Rattle.cfi_single.proofs.Refused as proof
use Rattle.cfi_single.proofs.laws.hardened_is_not_refused.Goals as goal

pub returns : goal.returns
returns c = proof.not_refused
