use Rattle.cfi_runs.proofs.WholeRun as proof
use Rattle.cfi_runs.proofs.laws.run_keeps_match.Goals as goal

pub returns : goal.returns
returns c = proof.run_keeps_match
