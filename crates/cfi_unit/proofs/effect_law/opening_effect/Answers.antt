use Rattle.cfi_unit.proofs.PrologueEffect as prologue
use Rattle.cfi_unit.proofs.effect_law.opening_effect.Goals as goal

pub returns : goal.returns
returns c = prologue.opening_effect
