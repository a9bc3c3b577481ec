use Rattle.cfi_rules.proofs.Taken.{run_reached}
use Rattle.cfi_rules.proofs.laws.run_is_reached.Goals as goal

pub returns : goal.returns
returns c = run_reached
