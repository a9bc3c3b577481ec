use Rattle.cfi_meaning.proofs.Places as proof
use Rattle.cfi_meaning.proofs.laws.next_gate.Goals as goal

pub returns : goal.returns
returns c = proof.next_gate
