use Rattle.cfi_runs.proofs.UnitRuns as proof
use Rattle.cfi_runs.proofs.laws.closing_runs.Goals as goal

pub returns : goal.returns
returns c = proof.closing_runs
