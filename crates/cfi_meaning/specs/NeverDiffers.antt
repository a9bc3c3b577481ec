-- Compared with its image, no run of a program differs.
use Rattle.std.specs.Prelude.{◌≡◌, ℕ, List}
use Rattle.rv_image.specs.Image.{Contents}
use Rattle.cfi_map.specs.GraphAtMap.{ProgramAtMap}
use Rattle.cfi_map.specs.Source.{init_here}
use Rattle.cfi_writer.specs.Units.{Choice}
use Rattle.cfi_meaning.specs.ImageOf.{IsImageOf}
use Rattle.cfi_meaning.specs.Compared.{Difference, compared, differs}

abbrev pub NoRunDiffers : ProgramAtMap → Contents → Type 0
NoRunDiffers layout image = (input : List ℕ) (limit : ℕ) (d : Difference) → compared layout.profile layout image input limit ≡ differs d → ⊥

abbrev pub NeverDiffers : Type 0
NeverDiffers = (m : Choice) (image : Contents) → IsImageOf m image → image.init ≡ init_here m.layout → NoRunDiffers m.layout image
