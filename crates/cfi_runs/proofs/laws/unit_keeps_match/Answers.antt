use Rattle.cfi_runs.proofs.Matched as proof
use Rattle.cfi_runs.proofs.laws.unit_keeps_match.Goals as goal

pub returns : goal.returns
returns c = proof.unit_keeps_match
