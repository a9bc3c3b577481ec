use Rattle.cfi_confined.proofs.Follows.{confined_listed}
use Rattle.cfi_confined.proofs.laws.confined_is_listed.Goals as goal

pub returns : goal.returns
returns c = confined_listed
