use Rattle.cfi_rules.proofs.PlacedCode.{split_units}
use Rattle.cfi_rules.proofs.laws.split_units.Goals as goal

pub returns : goal.returns
returns c = split_units
