use Rattle.cfi_rules.proofs.Reading.{read_units}
use Rattle.cfi_rules.proofs.laws.read_units.Goals as goal

pub returns : goal.returns
returns c = read_units
