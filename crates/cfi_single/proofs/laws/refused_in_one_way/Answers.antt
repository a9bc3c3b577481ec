use Rattle.cfi_single.proofs.Refused as proof
use Rattle.cfi_single.proofs.laws.refused_in_one_way.Goals as goal

pub returns : goal.returns
returns c = proof.refusal_unique
