use Rattle.cfi_starts.proofs.Laid.{laid_with}
use Rattle.cfi_verify.proofs.KindPass.{calm_word}
use Rattle.cfi_verify.proofs.OnePass.{entry_there}
use Rattle.cfi_verify.proofs.kinds_hold.next_lively.Goals as goal

pub returns-clause-calm : goal.returns-clause-calm
returns-clause-calm c = λ k from below. calm_word _ (laid_with c.args.starts.now.listing.versions) c.args.starts.now.listing k (λ entry some. c.next_lively.ensures.calm k entry from below (entry_there k c.listing.ensures some))
