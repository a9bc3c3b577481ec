use Rattle.cfi_single.proofs.Hardened as proof
use Rattle.cfi_single.proofs.laws.hardened_in_one_way.Goals as goal

pub returns : goal.returns
returns c = proof.hardened_unique
