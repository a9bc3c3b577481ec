-- What a demonstration needs of a hardened program: its program runs at its map, and no run of that differs from the image's.
use Rattle.std.proofs.Common.{◌≡◌, ◌∙◌, ℕ, List, [], length, None, ap, ap₂, refl, replicate, subst, sym}
use Rattle.tool_objects.proofs.Prelude.{ImageVersion, graph_version, image_version, Form, spelling, Contents, IsImageSize, image_profile, Profile, profile_of, IsSameMachine, After, start_hart, start_shared, MapParts, ProgramAtMap, program_at, IsLegalMap, gates_of, IsPlacementOf, Spaced, first_astray, source_start, Program, GraphParts, IsWellFormed, pair_profile, HardenedParts, IsWrittenOf, IsPrepared, IsPreparedOf, PreparedParts, Refuses, ProgramRequest, Request, Refusal, most_steps, NeverDiffersOf, NoRunDiffers, SourceParts, DemoIsNeverRefused, entered, told_answer, Compared, at_map, IsComparedAt, STEP_LIMIT, CanRunAt, IsAnswerAt, IsDifference, IsDrawn, IsImageIn, IsSourceOn, NoneDiffers}
use Rattle.rv_code.proofs.FormMachine.{form_machine}
use Rattle.rv_code.proofs.SameSteps.{run_alone_same}
use Rattle.cfi_meaning.specs.Compared as runs
use Rattle.tool_objects.proofs.FormProfile.{pair_formed}

module _ (request : ProgramRequest) (p : PreparedParts) (prepared : IsPreparedOf request p) (h : HardenedParts) (hardened : IsWrittenOf p h) where
  -- what was placed is the program at the gates of its map
  at_gates : (s : Spaced) → IsPlacementOf p.form p.program p.closed p.entry s → h.map.form ≡ p.form → gates_of h.map.lines ≡ s.layout.gates
      → s.layout ≡ at_map p h.map
  at_gates s placed form gates = placed.of ∙ ap₂ (λ (f : Form) (gs : List ℕ). program_at f p.program p.closed gs p.entry) (sym form) (sym gates)

  pub form_of_map : h.map.form ≡ request.form
  form_of_map =
      let (s, labels, code, init, placed, room, in_range, written) = hardened in
      written.map_form ∙ prepared.form

  own_image : (image : Contents) → IsImageIn h.image image → (code init : List ℕ) → IsImageSize (length code) (length init)
      → h.image ≡ spelling (image_version p.form) code init → image ≡ record { version = image_version p.form; code = code; init = init }
  own_image image is code init size spelled = is.only (image_version p.form) code init size spelled

  pub can_run : CanRunAt p h.map
  can_run =
      let (s, labels, code, init, placed, room, in_range, written) = hardened in
      let (raw, drawn, closed) = prepared.closed.drawn in
      record {
        version = closed.version_is ∙ ap graph_version (sym written.map_form);
        legal = subst (λ (l : ProgramAtMap). IsLegalMap l.program l.closed l.entry h.map) placed.of written.map;
        room = room;
        in_range = subst (λ (l : ProgramAtMap). first_astray l ≡ None) (at_gates s placed written.map_form written.gates) in_range;
      }

  pub is_well_formed : (image : Contents) → IsImageIn h.image image → IsWellFormed (pair_profile image h.graph) image h.graph
  is_well_formed image is =
      let (s, labels, code, init, placed, room, in_range, written) = hardened in
      let own : Contents = record { version = image_version p.form; code = code; init = init } in
      let same : image ≡ own = own_image image is code init written.bytes.size written.image in
      subst (λ (x : Contents). IsWellFormed (pair_profile x h.graph) x h.graph) (sym same)
      (pair_formed p.form own h.graph refl (ap (λ (g : GraphParts). g.version) written.graph) written.well_formed)

-- the image of a prepared program is what the file contains, so no run differs from its
pub none_differs : (p : PreparedParts) (h : HardenedParts) → NeverDiffersOf p h → (image : Contents) → IsImageIn h.image image → NoneDiffers p h.map image
none_differs p h never image is =
    let own = never.contents in
    let same : image ≡ own =
    is.only own.version own.code own.init never.bytes.size never.image in
    let there : NoRunDiffers (at_map p h.map) own =
    subst (λ (f : Form). NoRunDiffers (program_at f p.program p.closed (gates_of h.map.lines) p.entry) own) (sym never.map_form) never.holds in
    subst (λ (x : Contents). NoRunDiffers (at_map p h.map) x) (sym same) there

-- a generated object is not refused
pub unrefused : DemoIsNeverRefused → (object : List ℕ) → IsDrawn object → (refusal : Refusal) → Refuses (entered object) refusal → ⊥
unrefused law object (number, is) refusal refuses = law number refusal (subst (λ (o : List ℕ). Refuses (entered o) refusal) is refuses)

-- an answer is no difference where none was found
no_difference : (program : Program) (found : runs.Compared) (result : Compared) → ((d : runs.Difference) → found ≡ runs.differs d → ⊥)
    → result ≡ told_answer program found → IsDifference result → ⊥
no_difference program (runs.untame_at because k) result none is difference = subst IsDifference is difference
no_difference program (runs.differs d) result none is difference = none d refl
no_difference program (runs.same events) result none is difference = subst IsDifference is difference
no_difference program runs.limited result none is difference = subst IsDifference is difference

-- what is compared does not go by who saves sites
compared_same : (q p : Profile) → IsSameMachine q p → (l : ProgramAtMap) (image : Contents) →
    runs.compared q l image [] STEP_LIMIT ≡ runs.compared p l image [] STEP_LIMIT
unfolding runs.compared_from
compared_same q p same l image =
    let r = runs.source_run l STEP_LIMIT (source_start l []) in
    ap (λ (a : After).
    runs.verdict r.turn
    (runs.first_difference 0 (runs.has_ended r.turn) (runs.trace r.state.shared.events (runs.source_end r.turn)) (runs.trace a.shared.events (runs.image_end a.turn)))
    (length r.state.shared.events))
    (run_alone_same q p same (start_hart 0) (start_shared image []) (replicate (most_steps l r.steps) []))

module _ (p : PreparedParts) (map : MapParts) (image : Contents) where
  pub answer_at : (run : SourceParts) (answer : Compared) → IsSourceOn p map [] run
      → answer ≡ told_answer run.layout.program (runs.compared (image_profile image) run.layout image [] STEP_LIMIT) → IsAnswerAt p map image answer
  answer_at run answer on told =
      subst (λ (l : ProgramAtMap). answer ≡ told_answer l.program (runs.compared (image_profile image) l image [] STEP_LIMIT)) on.layout told

  module _ (answer : Compared) (is : IsAnswerAt p map image answer) where
    pub compared_at : (request : Request) → IsPrepared request p → CanRunAt p map → IsComparedAt request map image answer
    compared_at request prepared fits = record { program = p; prepared = prepared; map_is = fits.legal; result_is = is }

    pub never_told : image.version ≡ image_version map.form → NoneDiffers p map image → IsDifference answer → ⊥
    never_told version never =
        let l = at_map p map in
        let one = ap (λ (v : ImageVersion). runs.compared (profile_of v) l image [] STEP_LIMIT) version
        ∙ compared_same (profile_of (image_version map.form)) l.profile (form_machine map.form) l image in
        no_difference p.program (runs.compared l.profile l image [] STEP_LIMIT) answer (never [] STEP_LIMIT) (is ∙ ap (told_answer p.program) one)
