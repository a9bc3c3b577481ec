use Rattle.cfi_writer.proofs.SideLabels as proof
use Rattle.cfi_writer.proofs.laws.sites_served.Goals as goal

pub returns : goal.returns
returns c = proof.sites_served
