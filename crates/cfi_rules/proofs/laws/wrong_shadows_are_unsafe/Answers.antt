use Rattle.cfi_rules.proofs.Arrivals.{wrong_shadows_unsafe}
use Rattle.cfi_rules.proofs.laws.wrong_shadows_are_unsafe.Goals as goal

pub returns : goal.returns
returns c = wrong_shadows_unsafe
