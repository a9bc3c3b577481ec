use Rattle.cfi_unit.proofs.EffectRows as rows
use Rattle.cfi_unit.proofs.effect_law.unit_keeps_registers.Goals as goal

pub returns : goal.returns
returns c = rows.unit_keeps_registers
