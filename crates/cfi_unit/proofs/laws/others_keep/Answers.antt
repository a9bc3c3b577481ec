use Rattle.cfi_unit.proofs.Others.{others_keep}
use Rattle.cfi_unit.proofs.laws.others_keep.Goals as goal

pub returns : goal.returns
returns c = others_keep
