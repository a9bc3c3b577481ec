-- Words of private contracts: a generated object as a request, and a map at which its program runs.
use Rattle.std.specs.Prelude.{◌≡◌, ℕ, List, [], length, ⊤, None}
use Rattle.rv_image.specs.declared.version.ImageVersion.{ImageVersion}
use Rattle.rv_image.specs.Form.{graph_version, image_version}
use Rattle.rv_image.specs.Image.{Contents, IsImageSize, image_profile}
use Rattle.elf_image.specs.Spelling.{spelling}
use Rattle.elf_writer.specs.Object.{object_bytes}
use Rattle.cfi_map_text.specs.Map.{MapParts}
use Rattle.cfi_map.specs.LegalMap.{IsLegalMap}
use Rattle.cfi_map.specs.Source.{source_start}
use Rattle.cfi_harden.specs.Room.{HasDataRoom}
use Rattle.cfi_harden.specs.Prepared.{IsPrepared, PreparedParts}
use Rattle.cfi_meaning.specs.Compared.{compared}
use Rattle.cfi_meaning.specs.NeverDiffers.{NoRunDiffers}
use Rattle.cfi_compare.specs.Told.{told_answer}
use Rattle.cfi_compare.specs.declared.answer.Compared.{Compared}
use Rattle.cfi_compare.specs.declared.answer.Compared.TheVariants.{Differs}
use Rattle.src_machine.specs.Running.{SourceParts, source_of}
use Rattle.cfi_gen.specs.Demo.{demo_parts}
use Rattle.gen_hardened.specs.Laws.{entered}
use Rattle.tool_objects.specs.Compare.{at_map, first_out}
use Rattle.tool_objects.specs.Demo.{STEP_LIMIT}

abbrev pub IsDrawn : List ℕ → Type 0
IsDrawn object = (number : ℕ) × (object ≡ object_bytes (demo_parts number))

pub record CanRunAt (p : PreparedParts) (map : MapParts) : Type 0 where
  pub version : p.closed.version ≡ graph_version map.form
  pub legal : IsLegalMap p.program p.closed p.entry map
  pub room : HasDataRoom p.program
  pub in_range : first_out p map ≡ None

-- a program's run is at its start, at a map
pub record IsSourceOn (p : PreparedParts) (map : MapParts) (input : List ℕ) (run : SourceParts) : Type 0 where
  pub legal : IsLegalMap p.program p.closed p.entry map
  pub in_range : first_out p map ≡ None
  pub layout : run.layout ≡ at_map p map
  pub state : source_of run ≡ source_start run.layout input
  pub steps : run.steps ≡ 0

-- an answer is that of a program's run without input at a map, beside an image's
abbrev pub IsAnswerAt : PreparedParts → MapParts → Contents → Compared → Type 0
IsAnswerAt p map image answer =
    answer ≡ told_answer p.program (compared (image_profile image) (at_map p map) image [] STEP_LIMIT)

-- an image is the one that a file spells
pub record IsImageIn (bytes : List ℕ) (image : Contents) : Type 0 where
  pub image_is : bytes ≡ spelling image.version image.code image.init
  pub only : (version : ImageVersion) (code init : List ℕ) → IsImageSize (length code) (length init) → bytes ≡ spelling version code init
      → image ≡ record { version = version; code = code; init = init }

-- no run of a program at a map differs from the image's
abbrev pub NoneDiffers : PreparedParts → MapParts → Contents → Type 0
NoneDiffers p map image = NoRunDiffers (at_map p map) image

-- a program is that of a generated object
pub record IsDemoPrepared (object : List ℕ) (p : PreparedParts) : Type 0 where
  pub drawn : IsDrawn object
  pub prepared : IsPrepared (entered object) p

-- it runs at a map, and no run of it differs from an image's, which has the version of the map's form
pub record IsComparable (object : List ℕ) (p : PreparedParts) (map : MapParts) (image : Contents) : Type 0 where
  pub ready : IsDemoPrepared object p
  pub version : image.version ≡ image_version map.form
  pub fits : CanRunAt p map
  pub same : NoneDiffers p map image

abbrev pub IsDifference : Compared → Type 0
IsDifference (Differs index source image) = ⊤
IsDifference other = ⊥
