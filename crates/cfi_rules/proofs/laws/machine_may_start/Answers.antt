use Rattle.cfi_rules.proofs.Starts.{machine_may_start}
use Rattle.cfi_rules.proofs.laws.machine_may_start.Goals as goal

pub returns : goal.returns
returns c = machine_may_start
