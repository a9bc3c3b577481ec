use Rattle.cfi_rules.proofs.PlacedSplit.{placed_split}
use Rattle.cfi_rules.proofs.laws.placed_are_split.Goals as goal

pub returns : goal.returns
returns c = placed_split
