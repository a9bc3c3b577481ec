use Rattle.cfi_confined.proofs.Unconfined.{faults_unconfined}
use Rattle.cfi_confined.proofs.laws.faults_are_unconfined.Goals as goal

pub returns : goal.returns
returns c = faults_unconfined
