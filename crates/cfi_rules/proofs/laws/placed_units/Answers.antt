use Rattle.cfi_rules.proofs.PlacedCode.{placed_units}
use Rattle.cfi_rules.proofs.laws.placed_units.Goals as goal

pub returns : goal.returns
returns c = placed_units
