use Rattle.cfi_rules.proofs.Arrivals.{wrong_deeds_unsafe}
use Rattle.cfi_rules.proofs.laws.wrong_deeds_are_unsafe.Goals as goal

pub returns : goal.returns
returns c = wrong_deeds_unsafe
