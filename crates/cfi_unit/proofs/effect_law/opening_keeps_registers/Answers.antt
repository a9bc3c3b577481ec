use Rattle.cfi_unit.proofs.PrologueEffect as prologue
use Rattle.cfi_unit.proofs.effect_law.opening_keeps_registers.Goals as goal

pub returns : goal.returns
returns c = prologue.opening_keeps_registers
