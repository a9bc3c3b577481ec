use Rattle.cfi_rules.proofs.Unsafe.{bare_store_unsafe}
use Rattle.cfi_rules.proofs.laws.bare_store_is_unsafe.Goals as goal

pub returns : goal.returns
returns c = bare_store_unsafe
