use Rattle.cfi_runs.proofs.Paths as proof
use Rattle.cfi_runs.proofs.laws.path_keeps_match.Goals as goal

pub returns : goal.returns
returns c = proof.path_keeps_match
