-- Meaning is kept by what a request comes to: its program, at the map that is told, runs as the image does that is told.
use Rattle.std.specs.Prelude.{◌≡◌, ℕ, List}
use Rattle.rv_image.specs.Image.{Contents}
use Rattle.rv_image.specs.Form.{image_version}
use Rattle.elf_image.specs.Spelling.{spelling}
use Rattle.cfi_map.specs.GraphAtMap.{ProgramAtMap, program_at}
use Rattle.cfi_map.specs.LegalMap.{IsLegalMap, gates_of}
use Rattle.cfi_rules.specs.Laws.{AreBytes}
use Rattle.cfi_writer.specs.Hardened.{HardenedParts}
use Rattle.cfi_harden.specs.Hardened.{IsWrittenOf}
use Rattle.cfi_harden.specs.Prepared.{IsPreparedOf, PreparedParts}
use Rattle.cfi_harden.specs.Request.{ProgramRequest}
use Rattle.cfi_meaning.specs.Meaning.{KeepsMeaning}
use Rattle.cfi_meaning.specs.NeverDiffers.{NoRunDiffers}

-- a prepared program at the gates of a map
abbrev pub hardened_at_map : PreparedParts → HardenedParts → ProgramAtMap
hardened_at_map p h = program_at p.form p.program p.closed (gates_of h.map.lines) p.entry

-- something holds of a prepared program at the map, which is legal, and of what the image contains
pub record HoldsOf (Holds : ProgramAtMap → Contents → Type 0) (p : PreparedParts) (h : HardenedParts) : Type 0 where
  pub contents : Contents
  -- bytes, of an image's lengths: so no other contents have this spelling
  pub bytes : AreBytes contents
  pub version : contents.version ≡ image_version p.form
  pub image : h.image ≡ spelling contents.version contents.code contents.init
  pub map : IsLegalMap p.program p.closed p.entry h.map
  pub map_form : h.map.form ≡ p.form
  pub holds : Holds (hardened_at_map p h) contents

-- with each input
abbrev pub KeepsMeaningOf : PreparedParts → HardenedParts → Type 0
KeepsMeaningOf = HoldsOf (λ layout image. (input : List ℕ) → KeepsMeaning layout image input)

abbrev pub NeverDiffersOf : PreparedParts → HardenedParts → Type 0
NeverDiffersOf = HoldsOf NoRunDiffers

-- the same of what a request is prepared to
abbrev pub OfPrepared : (PreparedParts → HardenedParts → Type 0) → ProgramRequest → HardenedParts → Type 0
OfPrepared Of request h = (p : PreparedParts) × IsPreparedOf request p × Of p h

abbrev pub KeepsMeaningAtMap : ProgramRequest → HardenedParts → Type 0
KeepsMeaningAtMap = OfPrepared KeepsMeaningOf

abbrev pub NeverDiffersAtMap : ProgramRequest → HardenedParts → Type 0
NeverDiffersAtMap = OfPrepared NeverDiffersOf

-- of each request that is prepared, and what is written of it
abbrev pub HoldsOfWritten : (PreparedParts → HardenedParts → Type 0) → Type 0
HoldsOfWritten Of = (request : ProgramRequest) (p : PreparedParts) (h : HardenedParts) → IsPreparedOf request p → IsWrittenOf p h → Of p h

abbrev pub HardenedKeepsMeaning : Type 0
HardenedKeepsMeaning = HoldsOfWritten KeepsMeaningOf

abbrev pub HardenedNeverDiffers : Type 0
HardenedNeverDiffers = HoldsOfWritten NeverDiffersOf
