use Rattle.cfi_runs.proofs.LeanOpening as proof
use Rattle.cfi_runs.proofs.laws.lean_opening_runs.Goals as goal

pub returns : goal.returns
returns c = proof.lean_opening_runs
