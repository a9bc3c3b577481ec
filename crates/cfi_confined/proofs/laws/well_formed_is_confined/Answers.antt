use Rattle.cfi_confined.proofs.Runs.{well_formed_confined}
use Rattle.cfi_confined.proofs.laws.well_formed_is_confined.Goals as goal

pub returns : goal.returns
returns c = well_formed_confined
