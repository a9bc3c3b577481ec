use Rattle.cfi_writer.proofs.SideLabels as proof
use Rattle.cfi_writer.proofs.laws.gates_listed.Goals as goal

pub returns : goal.returns
returns c = proof.gates_listed
