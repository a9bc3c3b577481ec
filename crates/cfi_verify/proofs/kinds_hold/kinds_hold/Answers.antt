use Rattle.std.proofs.Common.{subst}
use Rattle.cfi_verify.proofs.Prelude.{profile_in, IsShut}
use Rattle.cfi_starts.proofs.Laid.{laid_with}
use Rattle.cfi_verify.proofs.KindPass.{kind_holds}
use Rattle.cfi_verify.proofs.kinds_hold.kinds_hold.Goals as goal

pub returns-then-is_shut : goal.returns-then-is_shut
returns-then-is_shut c = λ held leaves k below.
    kind_holds _ (laid_with c.args.starts.now.listing.versions) c.args.starts.now.listing c.args.starts.now.graph c.count-count.ensures.graph_is.order c.requires
    (c.leaves_hold.ensures.whole c.if-not-leaves_hold.false) (c.leaves_hold.ensures.shut c.if-not-leaves_hold.false) (subst (IsShut (profile_in c.args.starts.now) c.args.starts.now.listing) c.count_after.ensures.value (c.is_shut.ensures c.if-is_shut.true)) (c.words_hold.ensures held) k below
