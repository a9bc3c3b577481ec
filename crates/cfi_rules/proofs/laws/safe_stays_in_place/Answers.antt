use Rattle.cfi_rules.proofs.Trails.{safe_stays}
use Rattle.cfi_rules.proofs.laws.safe_stays_in_place.Goals as goal

pub returns : goal.returns
returns c = safe_stays
