use Rattle.cfi_rules.proofs.PlacedCode.{placed_entry}
use Rattle.cfi_rules.proofs.laws.placed_entry.Goals as goal

pub returns : goal.returns
returns c = placed_entry
