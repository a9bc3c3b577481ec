use Rattle.cfi_rules.proofs.CodeSplit.{code_is_split}
use Rattle.cfi_rules.proofs.laws.code_is_split.Goals as goal

pub returns : goal.returns
returns c = code_is_split
