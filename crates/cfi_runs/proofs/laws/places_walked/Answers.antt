use Rattle.cfi_runs.proofs.GroupRuns as proof
use Rattle.cfi_runs.proofs.laws.places_walked.Goals as goal

pub returns : goal.returns
returns c = proof.places_walked
