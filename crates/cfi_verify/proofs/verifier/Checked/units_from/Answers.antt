use Rattle.std.proofs.Common.{◌∙◌, ap}
use Rattle.cfi_verify.proofs.Prelude.{Versions, profile_with, pair_profile, Pair}
use Rattle.cfi_verify.proofs.verifier.Checked.units_from.Goals as goal

pub returns : goal.returns
returns c =
    c.units_from.ensures.at ∙ ap (λ (v : Versions). (profile_with v).units_from) c.self.invariant.versions
    ∙ ap (λ (q : Pair). (pair_profile q.image q.graph).units_from) c.self.view_is
