-- A hardened program: its image, its graph and its map.
use Rattle.std.specs.Prelude.{◌≡◌, ℕ, ◌<◌, ◌^◌, List, length, Some}
use Rattle.std.specs.List.{All}
use Rattle.rv_image.specs.Form.{graph_version, image_version, profile_for}
use Rattle.rv_image.specs.declared.form.Form.{Form}
use Rattle.elf_image.specs.Spelling.{spelling}
use Rattle.cfi_graph.specs.Graph.{GraphParts}
use Rattle.cfi_map_text.specs.Map.{MapParts}
use Rattle.cfi_class.specs.Labels.{AreLabels}
use Rattle.obj_program.specs.DataAtMap.{data_at}
use Rattle.obj_program.specs.MapFit.{FitsMaps}
use Rattle.obj_program.specs.Program.{Program, count, item_of}
use Rattle.cfi_closed.specs.Closed.{ClosedGraph}
use Rattle.cfi_map.specs.GraphAtMap.{graph_lines}
use Rattle.cfi_map.specs.LabelOf.{tagged}
use Rattle.cfi_flow.specs.Labels.{used_labels}
use Rattle.cfi_map.specs.LegalMap.{IsLegalMap, gates_of}
use Rattle.cfi_rules.specs.Laws.{AreBytes}
use Rattle.cfi_rules.specs.Rules.{IsWellFormed}
use Rattle.cfi_rules.specs.Split.{code_words}
use Rattle.cfi_writer.specs.Laws.{written_code}
use Rattle.cfi_map.specs.Placing.{Spaced}
use Rattle.cfi_writer.specs.Units.{Choice}

pub record HardenedParts : Type 0 where
  pub image : List ℕ
  pub graph : GraphParts
  pub map : MapParts

-- the room of initialised data in an image
abbrev pub INIT_ROOM : ℕ
INIT_ROOM = 2 ^ 25

-- a program at a placement, and its labels
abbrev pub chosen : Spaced → List ℕ → Choice
chosen s labels = record { layout = s.layout; whole = s.whole; labels = labels }

-- labels for all classes: the least that are free, so that they rise (`labels_rise` of cfi_class), of 20 bits
pub record AreGiven (program : Program) (closed : ClosedGraph) (labels : List ℕ) : Type 0 where
  pub counted : length labels ≡ length (tagged closed.sides)
  pub least : AreLabels (used_labels program) labels
  pub small : All (λ label. label < 2 ^ 20) labels

-- what is written in a form of a program at a placement: the image of the units' code and of the data at the map, the graph at the map, and the
-- map, which is legal
pub record IsWritten (form : Form) (s : Spaced) (labels code init : List ℕ) (h : HardenedParts) : Type 0 where
  -- the program fits maps, and its words have 32 bits
  pub fits_maps : FitsMaps s.layout.program
  pub words : (k : ℕ) → k < count s.layout.program → (item_of s.layout.program k).word < 2 ^ 32
  pub labelled : AreGiven s.layout.program s.layout.closed labels
  pub code_is : code_words code ≡ written_code (chosen s labels)
  pub init_is : data_at s.layout.program s.layout.gates ≡ Some init
  pub bytes : AreBytes (record { version = image_version form; code = code; init = init })
  pub image : h.image ≡ spelling (image_version form) code init
  pub graph : h.graph ≡ record { version = graph_version form; code = length code; lines = graph_lines s.layout labels }
  pub map : IsLegalMap s.layout.program s.layout.closed s.layout.entry h.map
  pub map_form : h.map.form ≡ form
  pub gates : gates_of h.map.lines ≡ s.layout.gates
  -- image and graph meet the verifier's rules
  pub well_formed : IsWellFormed (profile_for form) (record { version = image_version form; code = code; init = init }) h.graph
