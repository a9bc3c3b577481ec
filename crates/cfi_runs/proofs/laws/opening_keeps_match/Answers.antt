use Rattle.cfi_runs.proofs.Ends as proof
use Rattle.cfi_runs.proofs.laws.opening_keeps_match.Goals as goal

pub returns : goal.returns
returns c = proof.opening_keeps_match
