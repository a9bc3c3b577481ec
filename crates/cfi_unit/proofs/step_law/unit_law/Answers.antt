use Rattle.cfi_unit.proofs.UnitSteps.{unit_law}
use Rattle.cfi_unit.proofs.step_law.unit_law.Goals as goal

pub returns : goal.returns
returns c = unit_law
