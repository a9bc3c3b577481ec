use Rattle.cfi_runs.proofs.Distances as proof
use Rattle.cfi_runs.proofs.laws.groups_are_masked.Goals as goal

pub returns : goal.returns
returns c = proof.groups_are_masked
