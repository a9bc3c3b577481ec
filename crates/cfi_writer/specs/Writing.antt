-- What a program at a placement and its labels have before they are written, and what is written part by part.
use Rattle.std.specs.Prelude.{◌≡◌, ℕ, ◌*◌, ◌≤◌, true, List, Some, is_some, length}
use Rattle.elf_image.specs.Spelling.{spelling}
use Rattle.cfi_graph.specs.Graph.{GraphParts}
use Rattle.rv_image.specs.Form.{graph_version, image_version, profile_for}
use Rattle.rv_image.specs.declared.form.Form.{Form}
use Rattle.cfi_map_text.specs.Map.{IsMap, MapParts}
use Rattle.obj_program.specs.DataAtMap.{data_at, init_size}
use Rattle.obj_program.specs.MapFit.{FitsMaps}
use Rattle.cfi_map.specs.GraphAtMap.{ProgramAtMap, graph_lines}
use Rattle.cfi_map.specs.LegalMap.{IsLegalMap}
use Rattle.cfi_rules.specs.Laws.{AreBytes}
use Rattle.cfi_rules.specs.Split.{code_words}
use Rattle.cfi_writer.specs.Accepted.{IsAccepted}
use Rattle.cfi_writer.specs.Hardened.{HardenedParts, INIT_ROOM, IsWritten, chosen}
use Rattle.cfi_writer.specs.Laws.{written_code}
use Rattle.cfi_writer.specs.MapLines.{map_lines}
use Rattle.cfi_map.specs.Placing.{Spaced}
use Rattle.cfi_writer.specs.Units.{Choice}

-- what can be written
pub record IsWritable (form : Form) (s : Spaced) (labels : List ℕ) : Type 0 where
  pub form_is : s.layout.profile ≡ profile_for form
  pub version_is : s.layout.closed.version ≡ graph_version form
  pub accepted : IsAccepted (chosen s labels)
  pub fits_maps : FitsMaps s.layout.program
  pub fits : IsMap (record { form = form; lines = map_lines s.layout })
  pub init_there : is_some (data_at s.layout.program s.layout.gates) ≡ true
  pub room : init_size s.layout.program ≤ INIT_ROOM

-- the bytes of a choice's code, with their graph
pub record IsCoded (m : Choice) (code : List ℕ) (graph : GraphParts) : Type 0 where
  pub words : code_words code ≡ written_code m
  pub size : length code ≡ 4 * length (written_code m)
  pub graph_is : graph ≡ record { version = m.layout.closed.version; code = length code; lines = graph_lines m.layout m.labels }

-- the same with its map, which is legal
pub record IsDescribed (form : Form) (m : Choice) (code : List ℕ) (graph : GraphParts) (map : MapParts) : Type 0 where
  pub coded : IsCoded m code graph
  pub lines : map ≡ record { form = form; lines = map_lines m.layout }
  pub legal : IsLegalMap m.layout.program m.layout.closed m.layout.entry map

-- the image of some code with these data, and with some data
pub record IsWrittenImage (form : Form) (layout : ProgramAtMap) (code init image : List ℕ) : Type 0 where
  pub data_is : data_at layout.program layout.gates ≡ Some init
  pub bytes : AreBytes (record { version = image_version form; code = code; init = init })
  pub image_is : image ≡ spelling (image_version form) code init

abbrev pub IsImageWith : Form → ProgramAtMap → List ℕ → List ℕ → Type 0
IsImageWith form layout code image = (init : List ℕ) × IsWrittenImage form layout code init image

-- written, with some code and some data
abbrev pub IsWrittenAs : Form → Spaced → List ℕ → HardenedParts → Type 0
IsWrittenAs form s labels h = (code : List ℕ) × (init : List ℕ) × IsWritten form s labels code init h
