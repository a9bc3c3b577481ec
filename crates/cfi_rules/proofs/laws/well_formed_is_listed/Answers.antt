use Rattle.cfi_rules.proofs.ListedRuns.{well_formed_listed}
use Rattle.cfi_rules.proofs.laws.well_formed_is_listed.Goals as goal

pub returns : goal.returns
returns c = well_formed_listed
