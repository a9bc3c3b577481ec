use Rattle.cfi_class.proofs.Rising as proof
use Rattle.cfi_class.proofs.laws.labels_rise.Goals as goal

pub returns : goal.returns
returns c = proof.labels_rise
