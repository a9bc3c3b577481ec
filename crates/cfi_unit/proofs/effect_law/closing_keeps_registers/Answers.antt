use Rattle.cfi_unit.proofs.PrologueEffect as prologue
use Rattle.cfi_unit.proofs.effect_law.closing_keeps_registers.Goals as goal

pub returns : goal.returns
returns c = prologue.closing_keeps_registers
