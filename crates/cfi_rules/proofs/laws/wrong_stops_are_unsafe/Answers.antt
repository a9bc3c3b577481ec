use Rattle.cfi_rules.proofs.Unsafe.{wrong_stops_unsafe}
use Rattle.cfi_rules.proofs.laws.wrong_stops_are_unsafe.Goals as goal

pub returns : goal.returns
returns c = wrong_stops_unsafe
