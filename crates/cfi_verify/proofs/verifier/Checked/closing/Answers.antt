use Rattle.std.proofs.Common.{◌∙◌, ap}
use Rattle.cfi_verify.proofs.Prelude.{Versions, profile_with, pair_profile, Pair}
use Rattle.cfi_verify.proofs.verifier.Checked.closing.Goals as goal

pub returns : goal.returns
returns c =
    c.closing.ensures ∙ ap (λ (v : Versions). (profile_with v).closing) c.self.invariant.versions
    ∙ ap (λ (q : Pair). (pair_profile q.image q.graph).closing) c.self.view_is
