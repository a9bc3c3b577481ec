use Rattle.cfi_unit.proofs.RegisterLaw as registers
use Rattle.cfi_unit.proofs.laws.results_listed.Goals as goal

pub returns : goal.returns
returns c = registers.results_listed
