use Rattle.cfi_rules.proofs.Arrivals.{bare_return_unsafe}
use Rattle.cfi_rules.proofs.laws.bare_return_is_unsafe.Goals as goal

pub returns : goal.returns
returns c = bare_return_unsafe
