use Rattle.cfi_rules.proofs.Unsafe.{middle_unsafe}
use Rattle.cfi_rules.proofs.laws.middle_is_unsafe.Goals as goal

pub returns : goal.returns
returns c = middle_unsafe
