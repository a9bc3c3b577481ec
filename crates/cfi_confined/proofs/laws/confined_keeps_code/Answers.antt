use Rattle.cfi_confined.proofs.Follows.{confined_keeps}
use Rattle.cfi_confined.proofs.laws.confined_keeps_code.Goals as goal

pub returns : goal.returns
returns c = confined_keeps
