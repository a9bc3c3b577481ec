use Rattle.cfi_rules.proofs.LeanArrivals.{wrong_lean_pairs_unsafe}
use Rattle.cfi_rules.proofs.laws.wrong_lean_pairs_are_unsafe.Goals as goal

pub returns : goal.returns
returns c = wrong_lean_pairs_unsafe
