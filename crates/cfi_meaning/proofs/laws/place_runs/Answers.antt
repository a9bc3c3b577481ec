use Rattle.cfi_meaning.proofs.Places as proof
use Rattle.cfi_meaning.proofs.laws.place_runs.Goals as goal

pub returns : goal.returns
returns c = proof.place_runs
