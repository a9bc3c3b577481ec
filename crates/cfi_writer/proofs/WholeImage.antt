-- A prepared program that is written, with its graph and map.
use Rattle.std.proofs.Common.{◌≡◌, ℕ, ◌*◌, ◌^◌, ◌<◌, ◌≤◌, List, length, Some, sym, ap, subst, ◌∙◌, arith}
use Rattle.std.specs.Prelude.{slice_index}
use Rattle.cfi_writer.proofs.Prelude.{GraphVersion, ImageVersion, IsImageSize, Versions, graph_version, image_version, profile_for, CODE_SIZE, Profile, profile_under, profile_with, Form, spelling, GraphParts, IsGraph, MapParts, data_at, init_size, ProgramAtMap, graph_lines, IsLegalMap, gates_of, Reaches, AreBytes, AllFit, placed_code, IsWellFormed, code_words, IsAccepted, INIT_ROOM, chosen, written_code, map_lines, Spaced, Choice, entry_arrival, units, IsCoded, IsDescribed, IsImageWith, IsWritable, IsWrittenAs}
use Rattle.cfi_rules.proofs.UnitIn.{length-placed_code}
use Rattle.cfi_writer.proofs.WholeCode.{written_graph, written_well_formed}
use Rattle.cfi_writer.proofs.SoundCode.{written_sound}
use Rattle.cfi_writer.proofs.Standing.{laid}
use Rattle.cfi_writer.proofs.PlaceLines.{gates_are}

-- the versions that a choice is written in
pub versions_are : (form : Form) (layout : ProgramAtMap) (image : ImageVersion) (graph : GraphVersion) → layout.profile ≡ profile_for form →
    layout.closed.version ≡ graph_version form → image ≡ image_version form → graph ≡ layout.closed.version → layout.profile ≡ profile_under graph image
versions_are form layout image graph is of image_is graph_is =
    is ∙ ap (λ (v : ImageVersion). profile_under (graph_version form) v) (sym image_is)
    ∙ ap (λ (v : GraphVersion). profile_under v image) (sym (graph_is ∙ of))

-- what the code of a choice in versions asks of its entry and of its units, and which code that is
pub reaches : (versions : Versions) (m : Choice) → IsAccepted m → m.layout.profile ≡ profile_with versions → Reaches (profile_with versions).opening_call (entry_arrival m)
reaches versions m ok is = subst (λ (p : Profile). Reaches p.opening_call (entry_arrival m)) is (written_sound m ok).entry_reached

pub all_fit : (versions : Versions) (m : Choice) → IsAccepted m → m.layout.profile ≡ profile_with versions → AllFit (profile_with versions).units_from (units m)
all_fit versions m ok is = subst (λ (p : Profile). AllFit p.units_from (units m)) is (written_sound m ok).fit

pub code_of_versions : (versions : Versions) (m : Choice) → m.layout.profile ≡ profile_with versions →
    placed_code (profile_with versions) (entry_arrival m) (units m) ≡ written_code m
code_of_versions versions m is = ap (λ (p : Profile). placed_code p (entry_arrival m) (units m)) (sym is)

pub in_room : (m : Choice) → IsAccepted m → 4 * length (written_code m) ≤ CODE_SIZE
in_room m ok = ok.room

pub is_graph : (m : Choice) (code : ℕ) → IsAccepted m → code ≡ 4 * length (written_code m) →
    IsGraph (record { version = m.layout.closed.version; code = code; lines = graph_lines m.layout m.labels })
is_graph m code ok same =
    subst (λ (n : ℕ). IsGraph (record { version = m.layout.closed.version; code = n; lines = graph_lines m.layout m.labels })) (sym same) (written_graph m ok)

pub image_size : (m : Choice) (code init : ℕ) → IsAccepted m → code ≡ 4 * length (written_code m) → 4 * length (written_code m) ≤ CODE_SIZE → init ≤ INIT_ROOM →
    IsImageSize code init
image_size m code init ok same room less =
    let whole = length-placed_code m.layout.profile ok.profile (entry_arrival m) (units m) in
    let low = (laid m ok).low in
    record { some = omega arith; most = omega arith; words = omega arith; data_most = less }

-- code and data are bytes
pub are_bytes : (version : ImageVersion) (code init : List ℕ) → ((k : ℕ) → slice_index code k < 2 ^ 8) → ((k : ℕ) → slice_index init k < 2 ^ 8) →
    IsImageSize (length code) (length init) → AreBytes (record { version = version; code = code; init = init })
are_bytes version code init of_code of_init size = record { code = of_code; init = of_init; size = size }

-- everything that is written of an accepted choice
pub written_as : (form : Form) (s : Spaced) (labels code init image : List ℕ) (graph : GraphParts) (map : MapParts) →
    IsWritable form s labels →
    code_words code ≡ written_code (chosen s labels) → data_at s.layout.program s.layout.gates ≡ Some init → image ≡ spelling (image_version form) code init →
    graph ≡ record { version = s.layout.closed.version; code = length code; lines = graph_lines s.layout labels } → map ≡ record { form = form; lines = map_lines s.layout } →
    IsLegalMap s.layout.program s.layout.closed s.layout.entry map → AreBytes (record { version = image_version form; code = code; init = init }) →
    IsWrittenAs form s labels (record { image = image; graph = graph; map = map })
written_as form s labels code init image graph map able code_is init_is image_is graph_is map_is legal bytes =
    let m = chosen s labels in (
      code,
      init,
      record {
        fits_maps = able.fits_maps;
        words = able.accepted.words;
        labelled = record {
          counted = able.accepted.counted;
          least = able.accepted.labels;
          small = able.accepted.labels_small;
        };
        code_is = code_is;
        init_is = init_is;
        bytes = bytes;
        image = image_is;
        graph = graph_is ∙ ap (λ (v : GraphVersion). record { version = v; code = length code; lines = graph_lines s.layout labels }) able.version_is;
        map = legal;
        map_form = ap (λ (x : MapParts). x.form) map_is;
        gates = ap (λ (x : MapParts). gates_of x.lines) map_is ∙ gates_are m able.accepted;
        well_formed = subst (λ (p : Profile). IsWellFormed p (record { version = image_version form; code = code; init = init }) graph) able.form_is
            (written_well_formed m (record { version = image_version form; code = code; init = init }) graph able.accepted code_is
            (ap (λ (g : GraphParts). g.version) graph_is) (ap (λ (g : GraphParts). g.lines) graph_is) (ap (λ (g : GraphParts). g.code) graph_is));
      },
    )

-- the same from the parts that are made one after another
pub written_with : (form : Form) (s : Spaced) (labels code image : List ℕ) (graph : GraphParts) (map : MapParts) →
    IsWritable form s labels → IsDescribed form (chosen s labels) code graph map → IsImageWith form s.layout code image →
    IsWrittenAs form s labels (record { image = image; graph = graph; map = map })
written_with form s labels code image graph map able is (init, of) =
    written_as form s labels code init image graph map able is.coded.words of.data_is of.image_is is.coded.graph_is is.lines is.legal of.bytes

-- the size of an image with the data of a program
pub program_size : (form : Form) (s : Spaced) (labels code : List ℕ) (graph : GraphParts) → IsWritable form s labels → IsCoded (chosen s labels) code graph →
    IsImageSize (length code) (init_size s.layout.program)
program_size form s labels code graph able coded =
    image_size (chosen s labels) (length code) (init_size s.layout.program) able.accepted coded.size (in_room (chosen s labels) able.accepted) able.room
