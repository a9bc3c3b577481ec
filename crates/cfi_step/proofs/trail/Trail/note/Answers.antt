use Rattle.std.proofs.Common.{sym, subst}
use Rattle.cfi_step.specs.Trail.{IsTrailOf, TrailParts}
use Rattle.cfi_step.proofs.Turned.{ring_takes}
use Rattle.cfi_step.proofs.trail.Trail.note.Goals as goal

pub returns-clause-walk : goal.returns-clause-walk
returns-clause-walk c walk of =
    let before = subst (λ (t : TrailParts). IsTrailOf walk t) (sym c.self.view_is) of in
    ring_takes walk c.self.inside.ring c.self.inside.count c.args.address c.self.told before
