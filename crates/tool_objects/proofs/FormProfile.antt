-- The profile of what is written is its form's.
use Rattle.std.proofs.Common.{◌≡◌, ◌∙◌, ap, subst, sym}
use Rattle.tool_objects.proofs.Prelude.{Form, GraphVersion, graph_version, image_version, profile_for, Contents, Profile, profile_under, GraphParts, IsWellFormed, pair_profile}

pub pair_formed : (form : Form) (image : Contents) (graph : GraphParts) → image.version ≡ image_version form → graph.version ≡ graph_version form →
    IsWellFormed (profile_for form) image graph → IsWellFormed (pair_profile image graph) image graph
pair_formed form image graph image_is graph_is well =
    subst (λ (q : Profile). IsWellFormed q image graph)
    (sym (ap (λ v. profile_under graph.version v) image_is ∙ ap (λ (v : GraphVersion). profile_under v (image_version form)) graph_is)) well
