use Rattle.std.proofs.Common.{ap, sym, ◌∙◌}
use Rattle.cfi_starts.specs.Entries.{goes_on}
use Rattle.cfi_starts.proofs.Laid.{laid_with}
use Rattle.cfi_starts.proofs.LeafLines.{was_false}
use Rattle.cfi_verify.proofs.KindPass.{shut_alone, shut_behind}
use Rattle.cfi_verify.proofs.kinds_hold.is_shut.Goals as goal

pub returns-in-Some : goal.returns-in-Some
returns-in-Some c = λ held.
    shut_behind _ (laid_with c.args.starts.now.listing.versions) c.args.starts.now.listing c.args.index c.in-Some.k c.in-Some.ensures.some
    (ap goes_on (sym c.word.ensures) ∙ was_false c.goes_on.ensures held)

pub returns-in-None : goal.returns-in-None
returns-in-None c = λ held. shut_alone _ (laid_with c.args.starts.now.listing.versions) c.args.starts.now.listing c.args.index c.in-None.ensures.none
