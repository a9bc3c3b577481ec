use Rattle.cfi_unit.proofs.RegisterLaw as registers
use Rattle.cfi_unit.proofs.step_law.registers_stay.Goals as goal

pub returns : goal.returns
returns c = registers.registers_stay
