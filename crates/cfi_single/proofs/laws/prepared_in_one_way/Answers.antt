use Rattle.cfi_single.proofs.Prepared as proof
use Rattle.cfi_single.proofs.laws.prepared_in_one_way.Goals as goal

pub returns : goal.returns
returns c = proof.prepared_unique
