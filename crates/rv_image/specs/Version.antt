-- The numbers of the versions of images, as files tell them.
use Rattle.std.specs.Prelude.{ℕ}
use Rattle.rv_image.specs.declared.version.ImageVersion.{ImageVersion}
use Rattle.rv_image.specs.declared.version.ImageVersion.TheVariants.{OneHart, EightHarts}

abbrev pub image_number : ImageVersion → ℕ
image_number OneHart = 1
image_number EightHarts = 2
