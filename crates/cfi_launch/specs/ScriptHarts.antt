-- Whether a script is for several harts, and an image for one. Only private contracts cite this.
use Rattle.std.specs.Prelude.{ℕ, nat_lt, Bool, false}
use Rattle.rv_image.specs.declared.version.ImageVersion.{ImageVersion}
use Rattle.rv_image.specs.declared.version.ImageVersion.TheVariants.{OneHart, EightHarts}

abbrev pub lacks_harts : ImageVersion → ℕ → Bool
lacks_harts OneHart harts = nat_lt 1 harts
lacks_harts EightHarts harts = false
