-- The machine of an image's version is that of each profile that goes with it.
use Rattle.std.proofs.Common.{refl}
use Rattle.rv_image.specs.declared.form.Form.{Form}
use Rattle.rv_image.specs.declared.version.GraphVersion.{GraphVersion}
use Rattle.rv_image.specs.declared.version.GraphVersion.TheVariants.{OneLabel, TwoLabels, CalleeSaves}
use Rattle.rv_image.specs.declared.version.ImageVersion.{ImageVersion}
use Rattle.rv_image.specs.declared.version.ImageVersion.TheVariants.{OneHart, EightHarts}
use Rattle.rv_image.specs.Form.{graph_version, image_version, profile_for}
use Rattle.rv_image.specs.MemoryMap.{profile_of, profile_under}
use Rattle.rv_code.specs.SameMachine.{IsSameMachine}

pub same_machine : (graph : GraphVersion) (image : ImageVersion) → IsSameMachine (profile_of image) (profile_under graph image)
same_machine OneLabel image = refl
same_machine TwoLabels image = refl
same_machine CalleeSaves OneHart = refl
same_machine CalleeSaves EightHarts = refl

pub form_machine : (form : Form) → IsSameMachine (profile_of (image_version form)) (profile_for form)
form_machine form = same_machine (graph_version form) (image_version form)
