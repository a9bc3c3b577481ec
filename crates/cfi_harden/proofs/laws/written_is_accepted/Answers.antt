use Rattle.cfi_harden.proofs.Ready.{written_accepted}
use Rattle.cfi_harden.proofs.laws.written_is_accepted.Goals as goal

pub returns : goal.returns
returns c = written_accepted
