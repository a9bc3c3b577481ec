use Rattle.cfi_single.proofs.Givings.{in_one_way}
use Rattle.cfi_single.proofs.laws.given_in_one_way.Goals as goal

pub returns : goal.returns
returns c = in_one_way
