-- A program at the map that a text spells, and what comes of it and of a file that should be an image.
use Rattle.std.proofs.Common.{◌≡◌, ◌+◌, ◌≤◌, ℕ, List, MatchResult, Option, Some, None, Result, Ok, Err, inl, inr, sym, ap, subst, ◌∙◌, arith}
use Rattle.tool_objects.proofs.Prelude.{graph_version, image_profile, DATA_END, DATA_START, End, Fault, NoMemory, Form, Reason, line_fault, init_size, Program, fault_of, MapParts, map_of, ProgramAtMap, IsWrongLine, source_start, Given, HasDataRoom, IsPrepared, PreparedParts, Reads, IsEarly, PreparesProgram, Refuses, Request, Text, Place, Refusal, instruction_at, Ends, IsBegun, SourceFault, WrongIsNotLegal, SourceParts, source_of, compared, told_answer, CompareOutcome, IsCompareOf, IsCompareRefused, IsComparison, IsMapOf, IsRoomy, IsRunnable, asked_at, at_map, first_out, map_form, IsAfterImage, IsImageCompared, IsResult, IsRoomyEnd, IsSourceOn}
use Rattle.rv_word.proofs.Cases.{cases_Option}
use Rattle.cfi_harden.proofs.Giving.{given_early}
use Rattle.cfi_harden.proofs.Preparing.{prepared_given, refused_given}
use Rattle.refusals.specs.declared.refusal.Refusal.TheVariants as refused
use Rattle.cfi_compare.specs.declared.answer.Compared as A
use Rattle.tool_objects.specs.declared.compare.CompareOutcome.TheVariants as outcome

-- a request in the form of a map that a text spells is one at that text
pub asked_form : (form : Form) (given : Given) (entry : List ℕ) (policy : Option (List ℕ)) (text : List ℕ) → form ≡ map_form text
    → ◌≡◌ {A = Request} (record { form = form; given = given; entry = entry; policy = policy }) (asked_at text given entry policy)
asked_form form given entry policy text same = ap (λ (f : Form). record { form = f; given = given; entry = entry; policy = policy }) same

pub data_fits : (p : PreparedParts) → HasDataRoom p.program → DATA_START + init_size p.program ≤ DATA_END
data_fits p room = omega (arith, room.init)

-- a run that is begun where the program is entered is the program's from its start
pub source_on : (p : PreparedParts) (input : List ℕ) (m : MapParts) (run : SourceParts) → IsBegun p.program p.closed p.entry m input run → IsSourceOn p m input run
source_on p input m run begun = record {
  legal = begun.legal;
  in_range = begun.in_range;
  layout = begun.layout;
  state = begun.state;
  steps = begun.steps;
}

-- what a run that begins at the spot of the entry comes to
pub begins : (p : PreparedParts) (input : List ℕ) (m : MapParts) (section offset : ℕ) (result : Result SourceParts (End SourceFault)) →
    instruction_at p.program (section, offset) ≡ Some p.entry →
    ((place : ℕ) → instruction_at p.program (section, offset) ≡ Some place →
    MatchResult result (λ (run : SourceParts). IsBegun p.program p.closed place m input run) (λ (e : End SourceFault). Ends p.program p.closed place m e)) →
    MatchResult result (IsSourceOn p m input) (Ends p.program p.closed p.entry m)
begins p input m section offset (Ok run) at is = source_on p input m run (is p.entry at)
begins p input m section offset (Err e) at is = is p.entry at

-- a program at the map that a text spells, from its start
pub record IsSourceAt (p : PreparedParts) (map input : List ℕ) (run : SourceParts) : Type 0 where
  pub at : MapParts
  pub map_is : IsMapOf p map at
  pub in_range : first_out p at ≡ None
  pub layout : run.layout ≡ at_map p at
  pub state : source_of run ≡ source_start run.layout input
  pub steps : run.steps ≡ 0

pub source_is : (p : PreparedParts) (map input : List ℕ) (m : MapParts) (run : SourceParts)
    → map_of map ≡ Ok m → IsSourceOn p m input run → IsSourceAt p map input run
source_is p map input m run read on = record {
  at = m;
  map_is = record { read = read; legal = on.legal };
  in_range = on.in_range;
  layout = on.layout;
  state = on.state;
  steps = on.steps;
}

-- what a request comes to that is not prepared
not_roomy : (request : Request) (refusal : Refusal) → Refuses request refusal → IsEarly refusal → IsRoomyEnd request (Fault refusal)
not_roomy request (refused.Object fault) is early = λ image map. is
not_roomy request (refused.ObjectIn fault k) is early = λ image map. is
not_roomy request (refused.TooManySections n) is early = λ image map. is
not_roomy request (refused.Duplicate name) is early = λ image map. is
not_roomy request (refused.Items fault) is early = λ image map. is
not_roomy request (refused.UndefinedIn symbol k) is early = λ image map. is
not_roomy request refused.NoEntry is early = λ image map. is
not_roomy request (refused.Policy line) is early = λ image map. is
not_roomy request other is early = absurd early

-- what is given is no program
pub not_given : (request : Request) (end : End Refusal) → Reads request.given (Err end) → IsRoomyEnd request end
not_given request (Fault refusal) is = not_roomy request refusal (inl is) (given_early request.given refusal is)
not_given request NoMemory is = tt

-- what preparing the program that is given comes to
pub prepared_or_not : (request : Request) (program : Program) (result : Result PreparedParts (End Refusal)) → Reads request.given (Ok program)
    → PreparesProgram (record { form = request.form; program = program; entry = request.entry; policy = request.policy }) result
    → MatchResult result (IsPrepared request) (IsRoomyEnd request)
prepared_or_not request program (Ok p) gives is = prepared_given request program gives p is
prepared_or_not request program (Err (Fault refusal)) gives (refuses, early) =
    not_roomy request refusal (refused_given request program gives refusal refuses) early
prepared_or_not request program (Err NoMemory) gives is = tt

-- a prepared program is closed for graphs of the form that was asked for
pub closed_for : (request : Request) (p : PreparedParts) → IsPrepared request p → p.closed.version ≡ graph_version request.form
closed_for request p is = let (raw, drawn, closed) = is.1.closed.drawn in closed.version_is ∙ ap graph_version is.1.form

module _ (request : Request) (p : PreparedParts) (map : List ℕ) (roomy : IsRoomy request p) where
  pub runnable_source : (input : List ℕ) (run : SourceParts) → IsSourceAt p map input run → IsRunnable request p map
  runnable_source input run source = record {
    roomy = roomy;
    in_range = λ m is.
        let same : m ≡ source.at = cc (is.read, source.map_is.read) in
        subst (λ (n : MapParts). first_out p n ≡ None) (sym same) source.in_range;
  }

  pub runnable_text : (line : ℕ) (reason : Reason) → map_of map ≡ Err (line_fault line reason) → IsRunnable request p map
  runnable_text line reason wrong = record { roomy = roomy; in_range = λ m is. absurd (cc (is.read, wrong)) }

  pub runnable_place : (m : MapParts) (line : ℕ) → WrongIsNotLegal → map_of map ≡ Ok m → IsWrongLine p.program p.closed p.entry m line
      → IsRunnable request p map
  runnable_place m line law read wrong = record {
    roomy = roomy;
    in_range = λ other is.
        let same : other ≡ m = cc (is.read, read) in
        absurd (law p.program p.closed p.entry other line (subst (λ (n : MapParts). IsWrongLine p.program p.closed p.entry n line) (sym same) wrong) is.legal);
  }

  -- what comes of the program's run from its start is the comparison
  pub comparison_is : (image input : List ℕ) (limit : ℕ) (run : SourceParts) (result : A.Compared) → IsSourceAt p map input run
      → IsResult run image input limit result → IsComparison request image map input limit result
  comparison_is image input limit run result source is = record {
    program = p;
    at = source.at;
    contents = is.contents;
    runnable = runnable_source input run source;
    map_is = source.map_is;
    image_is = is.image_is;
    result_is = subst (λ (l : ProgramAtMap). result ≡ told_answer l.program (compared (image_profile is.contents) l is.contents input limit)) source.layout is.result_is;
  }

  -- what comes of the program's run from its start, whatever the file is that should be an image
  pub compared_with : (image input : List ℕ) (limit : ℕ) (run : SourceParts) (result : CompareOutcome) → IsSourceAt p map input run
      → IsImageCompared run image input limit result → IsCompareOf request image map input limit result
  compared_with image input limit run (outcome.Refused (refused.Image refusal)) source is = (p, runnable_source input run source, is)
  compared_with image input limit run (outcome.Refused other) source is = absurd is
  compared_with image input limit run (outcome.Compared result) source is = comparison_is image input limit run result source is

  module _ (image : List ℕ) (refusal : Refusal) where
    -- a map's line that is no legal placement's, and a text that is no map, after an image's own refusal
    pub wrong_place : (m : MapParts) (line : ℕ) → WrongIsNotLegal → map_of map ≡ Ok m → IsWrongLine p.program p.closed p.entry m line
        → IsAfterImage image (refused.Map line Place) refusal → IsCompareRefused request image map refusal
    wrong_place m line law read wrong after =
        let runnable = runnable_place m line law read wrong in
        elim (cases_Option (fault_of image)) [
          | inl none ↦ subst (λ (r : Refusal). IsCompareRefused request image map r) (sym (after.right none)) (p, m, runnable, none, read, wrong)
          | inr (f, some) ↦ subst (λ (r : Refusal). IsCompareRefused request image map r) (sym (after.wrong f some)) (p, runnable, some)
        ]

    pub wrong_text : (line : ℕ) (reason : Reason) → map_of map ≡ Err (line_fault line reason) → IsAfterImage image (refused.Map line (Text reason)) refusal
        → IsCompareRefused request image map refusal
    wrong_text line reason wrong after =
        let runnable = runnable_text line reason wrong in
        elim (cases_Option (fault_of image)) [
          | inl none ↦ subst (λ (r : Refusal). IsCompareRefused request image map r) (sym (after.right none)) (p, runnable, none, wrong)
          | inr (f, some) ↦ subst (λ (r : Refusal). IsCompareRefused request image map r) (sym (after.wrong f some)) (p, runnable, some)
        ]
