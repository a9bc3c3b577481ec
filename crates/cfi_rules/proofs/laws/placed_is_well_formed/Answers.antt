use Rattle.cfi_rules.proofs.PlacedCode.{placed_well_formed}
use Rattle.cfi_rules.proofs.laws.placed_is_well_formed.Goals as goal

pub returns : goal.returns
returns c = placed_well_formed
