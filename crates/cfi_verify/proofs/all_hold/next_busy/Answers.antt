use Rattle.cfi_starts.proofs.Laid.{laid_with}
use Rattle.cfi_verify.proofs.OnePass.{entry_there, quiet_word}
use Rattle.cfi_verify.proofs.all_hold.next_busy.Goals as goal

pub returns-clause-quiet : goal.returns-clause-quiet
returns-clause-quiet c = λ k from below. quiet_word _ (laid_with c.args.starts.now.listing.versions) c.args.starts.now.listing.entries k (λ entry some. c.next_busy.ensures.quiet k entry from below (entry_there k c.listing.ensures some))
