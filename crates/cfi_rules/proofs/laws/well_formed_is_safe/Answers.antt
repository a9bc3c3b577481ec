use Rattle.cfi_rules.proofs.Safety.{well_formed_is_safe}
use Rattle.cfi_rules.proofs.laws.well_formed_is_safe.Goals as goal

pub returns : goal.returns
returns c = well_formed_is_safe
