-- The profile of a pair of versions.
use Rattle.std.proofs.Common.{◌≡◌, refl}
use Rattle.rv_image.specs.declared.version.GraphVersion.{GraphVersion}
use Rattle.rv_image.specs.declared.version.GraphVersion.TheVariants.{OneLabel, TwoLabels, CalleeSaves}
use Rattle.rv_image.specs.declared.version.ImageVersion.{ImageVersion}
use Rattle.rv_image.specs.declared.version.ImageVersion.TheVariants.{OneHart, EightHarts}
use Rattle.rv_image.specs.declared.version.Versions.{Versions}
use Rattle.rv_image.specs.MemoryMap.{profile_under, profile_with}
use Rattle.rv_image.proofs.Profiles.{LaidOut, is_pair_profile, laid_out}
use Rattle.cfi_graph.specs.Graph.{has_leaves}

pub laid_under : (graph : GraphVersion) (image : ImageVersion) → LaidOut (profile_under graph image)
laid_under graph image = laid_out (profile_under graph image) (is_pair_profile graph image)

pub laid_with : (versions : Versions) → LaidOut (profile_with versions)
laid_with versions = laid_under versions.graph versions.image

-- callees save sites where graphs have leaves
pub saves_under : (graph : GraphVersion) (image : ImageVersion) → (profile_under graph image).callee_saves ≡ has_leaves graph
saves_under OneLabel OneHart = refl
saves_under OneLabel EightHarts = refl
saves_under TwoLabels OneHart = refl
saves_under TwoLabels EightHarts = refl
saves_under CalleeSaves OneHart = refl
saves_under CalleeSaves EightHarts = refl

pub saves_with : (versions : Versions) → (profile_with versions).callee_saves ≡ has_leaves versions.graph
saves_with versions = saves_under versions.graph versions.image
