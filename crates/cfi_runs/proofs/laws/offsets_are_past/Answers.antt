use Rattle.cfi_runs.proofs.Distances as proof
use Rattle.cfi_runs.proofs.laws.offsets_are_past.Goals as goal

pub returns : goal.returns
returns c = proof.offsets_are_past
