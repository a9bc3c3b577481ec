use Rattle.cfi_meaning.proofs.Prologue as proof
use Rattle.cfi_meaning.proofs.laws.written_prologue.Goals as goal

pub returns : goal.returns
returns c = proof.written_prologue
