use Rattle.cfi_runs.proofs.Ends as proof
use Rattle.cfi_runs.proofs.laws.closing_keeps_match.Goals as goal

pub returns : goal.returns
returns c = proof.closing_keeps_match
