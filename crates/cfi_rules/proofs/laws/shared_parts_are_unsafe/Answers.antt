use Rattle.cfi_rules.proofs.Arrivals.{shared_parts_unsafe}
use Rattle.cfi_rules.proofs.laws.shared_parts_are_unsafe.Goals as goal

pub returns : goal.returns
returns c = shared_parts_unsafe
