use Rattle.cfi_rules.proofs.Arrivals.{wrong_transfers_unsafe}
use Rattle.cfi_rules.proofs.laws.wrong_transfers_are_unsafe.Goals as goal

pub returns : goal.returns
returns c = wrong_transfers_unsafe
