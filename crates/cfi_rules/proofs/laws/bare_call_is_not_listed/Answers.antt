use Rattle.cfi_rules.proofs.Unlisted.{bare_call_unlisted}
use Rattle.cfi_rules.proofs.laws.bare_call_is_not_listed.Goals as goal

pub returns : goal.returns
returns c = bare_call_unlisted
