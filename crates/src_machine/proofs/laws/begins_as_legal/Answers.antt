use Rattle.src_machine.proofs.Prefixes.{begins_as_legal}
use Rattle.src_machine.proofs.laws.begins_as_legal.Goals as goal

pub returns : goal.returns
returns c = begins_as_legal
