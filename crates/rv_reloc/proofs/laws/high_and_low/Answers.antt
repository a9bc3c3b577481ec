use Rattle.rv_reloc.proofs.Pair.{high_and_low}
use Rattle.rv_reloc.proofs.laws.high_and_low.Goals as goal

pub returns : goal.returns
returns c = high_and_low
