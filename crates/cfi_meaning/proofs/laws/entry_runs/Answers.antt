use Rattle.cfi_meaning.proofs.EntryRuns as proof
use Rattle.cfi_meaning.proofs.laws.entry_runs.Goals as goal

pub returns : goal.returns
returns c = proof.entry_runs
