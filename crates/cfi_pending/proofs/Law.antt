-- What a unit does to the shadow stack and to x1 is what it does to the pending sites.
use Rattle.std.proofs.Common.{refl, [], ◌∷◌}
use Rattle.cfi_unit.specs.Leads.{Legal, by_label}
use Rattle.cfi_pending.specs.Laws.{PendingLaw, PendingLawOf}
use Rattle.cfi_pending.specs.Starts.{fresh, saved}
use Rattle.cfi_pending.proofs.Fresh.{from_fresh}
use Rattle.cfi_pending.proofs.Saved.{from_saved}

pub pending_law_of : (legal : Legal) → PendingLawOf legal
pending_law_of legal unit at saved pending before stacked r left next may to stands few leads has keeps =
    from_saved legal at pending before stacked r left next stands few unit may leads has
pending_law_of legal unit at fresh [] before stacked r left next may to stands few leads has keeps = absurd stands
pending_law_of legal unit at fresh (site ∷ rest) before stacked r left next may to stands few leads has keeps =
    from_fresh legal at site rest before stacked r left next stands.0 stands.1 (keeps refl) unit may to leads

pub pending_law : PendingLaw
pending_law image = pending_law_of (by_label image)
