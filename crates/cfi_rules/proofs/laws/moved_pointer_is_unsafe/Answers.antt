use Rattle.cfi_rules.proofs.Unsafe.{moved_pointer_unsafe}
use Rattle.cfi_rules.proofs.laws.moved_pointer_is_unsafe.Goals as goal

pub returns : goal.returns
returns c = moved_pointer_unsafe
