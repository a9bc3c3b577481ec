use Rattle.cfi_writer.proofs.SideLabels as proof
use Rattle.cfi_writer.proofs.laws.targets_bear.Goals as goal

pub returns : goal.returns
returns c = proof.targets_bear
