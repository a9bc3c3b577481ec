use Rattle.cfi_meaning.proofs.StepKept as proof
use Rattle.cfi_meaning.proofs.laws.step_kept.Goals as goal

pub returns : goal.returns
returns c = proof.step_kept
