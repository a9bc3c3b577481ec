-- By a graph's version, who saves the sites of calls in code of the pair.
use Rattle.std.proofs.Common.{◌≡◌, true, false, ap, ◌∙◌}
use Rattle.cfi_walk.proofs.Prelude.{GraphVersion, OneLabel, TwoLabels, CalleeSaves, Contents, lean_profile_of, profile_of, profile_under, GraphParts, pair_profile}
use Rattle.rv_image.proofs.Profiles.{full_saves, is_full, is_lean, lean_saves}

pub callees_save : (image : Contents) (graph : GraphParts) → graph.version ≡ CalleeSaves → (pair_profile image graph).callee_saves ≡ true
callees_save image graph e =
    ap (λ v. (profile_under v image.version).callee_saves) e ∙ lean_saves (lean_profile_of image.version) (is_lean image.version)

pub callers_save : (image : Contents) (graph : GraphParts) (version : GraphVersion) → graph.version ≡ version → profile_under version image.version ≡ profile_of image.version →
    (pair_profile image graph).callee_saves ≡ false
callers_save image graph version e same =
    ap (λ v. (profile_under v image.version).callee_saves) e ∙ ap (λ p. p.callee_saves) same ∙ full_saves (profile_of image.version) (is_full image.version)
