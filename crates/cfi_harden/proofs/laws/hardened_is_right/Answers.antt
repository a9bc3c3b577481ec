use Rattle.cfi_harden.proofs.Right as proof
use Rattle.cfi_harden.proofs.laws.hardened_is_right.Goals as goal

pub returns : goal.returns
returns c = proof.hardened_is_right
