use Rattle.cfi_unit.proofs.Told as told
use Rattle.cfi_unit.proofs.laws.recognised_begins.Goals as goal

pub returns : goal.returns
returns c = told.recognised_begins
