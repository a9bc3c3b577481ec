use Rattle.cfi_unit.proofs.Near.{branch_begins}
use Rattle.cfi_unit.proofs.laws.branch_begins.Goals as goal

pub returns : goal.returns
returns c = branch_begins
