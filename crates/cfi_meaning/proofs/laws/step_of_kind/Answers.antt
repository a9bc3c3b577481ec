use Rattle.cfi_meaning.proofs.KindStep as proof
use Rattle.cfi_meaning.proofs.laws.step_of_kind.Goals as goal

pub returns : goal.returns
returns c = proof.step_of_kind
