use Rattle.src_machine.proofs.Prefixes.{wrong_is_not_legal}
use Rattle.src_machine.proofs.laws.wrong_is_not_legal.Goals as goal

pub returns : goal.returns
returns c = wrong_is_not_legal
