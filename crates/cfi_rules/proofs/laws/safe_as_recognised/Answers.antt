use Rattle.cfi_rules.proofs.Reading.{safe_as_recognised}
use Rattle.cfi_rules.proofs.laws.safe_as_recognised.Goals as goal

pub returns : goal.returns
returns c = safe_as_recognised
