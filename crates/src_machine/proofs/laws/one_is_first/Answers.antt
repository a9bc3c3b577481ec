use Rattle.src_machine.proofs.Prefixes.{one_is_first}
use Rattle.src_machine.proofs.laws.one_is_first.Goals as goal

pub returns : goal.returns
returns c = one_is_first
