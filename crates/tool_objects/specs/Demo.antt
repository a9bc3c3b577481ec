-- `demo NUMBER`: the object of a number is hardened, its image is verified and run, and the program's run compared with the image's, all
-- in memory.
use Rattle.std.specs.Prelude.{◌≡◌, ℕ, List, [], ◌∷◌, ◌++◌, length, codes, count_by, ⊤, Option, None}
use Rattle.std.specs.Fmt.{decimal}
use Rattle.rv_image.specs.Image.{Contents, image_profile}
use Rattle.rv_image.specs.declared.version.ImageVersion.TheVariants.{OneHart}
use Rattle.elf_image.specs.Spelling.{spelling}
use Rattle.elf_writer.specs.Object.{object_bytes}
use Rattle.cfi_graph.specs.Graph.{is_class, is_site}
use Rattle.cfi_map_text.specs.Map.{MapParts}
use Rattle.cfi_map.specs.LegalMap.{IsLegalMap}
use Rattle.cfi_step.specs.declared.report.RunEnd.{RunEnd}
use Rattle.cfi_step.specs.declared.report.RunEnd.TheVariants as ends
use Rattle.cfi_step.specs.declared.report.HartWalk.{HartWalk}
use Rattle.cfi_step.specs.declared.report.RunReport.{RunReport}
use Rattle.cfi_writer.specs.Hardened.{HardenedParts}
use Rattle.cfi_harden.specs.Prepared.{IsPrepared, PreparedParts}
use Rattle.cfi_harden.specs.Request as asks
use Rattle.cfi_meaning.specs.Compared.{compared}
use Rattle.cfi_compare.specs.Text.{answer_text}
use Rattle.cfi_compare.specs.Told.{told_answer}
use Rattle.cfi_compare.specs.declared.answer.Compared as A
use Rattle.cfi_compare.specs.declared.answer.Compared.TheVariants.{Same, Differs, Untame, Limit}
use Rattle.cfi_gen.specs.Demo.{demo_parts}
use Rattle.gen_hardened.specs.Laws.{entered}
use Rattle.tool_common.specs.Lines.{with_newline}
use Rattle.tool_common.specs.Words.{steps_of}
use Rattle.tool_report.specs.ReportText.{end_status, report_text}
use Rattle.cfi_launch.specs.SafeRun.{IsSafeRun, undisturbed_script}
use Rattle.tool_objects.specs.Compare.{answer_status, at_map}
use Rattle.tool_objects.specs.Rewrite.{IsMade}
use Rattle.tool_objects.specs.declared.demo.DemoOutcome.{DemoOutcome}
use Rattle.tool_objects.specs.declared.demo.DemoOutcome.TheVariants as outcome
use Rattle.tool_objects.specs.declared.demo.DemoRequest.{DemoRequest}
use Rattle.tool_objects.specs.declared.demo.Shown.{Shown}

-- the number that the word after the command asks for, if it is taken: of the form of a number of steps
abbrev pub demo_words : List (List ℕ) → Option ℕ
demo_words (number ∷ []) = steps_of number
demo_words words = None

abbrev pub demo_asked : DemoRequest → ℕ
demo_asked r = r.number

-- how many steps the run, and the program's in the comparison, take at most
abbrev pub STEP_LIMIT : ℕ
STEP_LIMIT = 10000000

-- the object of the number is hardened, and its image, which is for one hart and safe, is run without input and changes
pub record IsDemoRun (number : ℕ) (hardened : HardenedParts) (image : Contents) (report : RunReport) : Type 0 where
  pub made : IsMade (entered (object_bytes (demo_parts number))) hardened
  pub version : image.version ≡ OneHart
  pub image_is : hardened.image ≡ spelling image.version image.code image.init
  pub run_is : IsSafeRun image hardened.graph undisturbed_script [] STEP_LIMIT report

-- a program's run without input at a map is compared with an image's
pub record IsComparedAt (request : asks.Request) (map : MapParts) (image : Contents) (result : A.Compared) : Type 0 where
  pub program : PreparedParts
  pub prepared : IsPrepared request program
  pub map_is : IsLegalMap program.program program.closed program.entry map
  pub result_is : result ≡ told_answer program.program (compared (image_profile image) (at_map program map) image [] STEP_LIMIT)

abbrev pub IsExit : RunEnd → Type 0
IsExit (ends.Exit status) = ⊤
IsExit other = ⊥

-- no end was found to compare; a difference is none of these, for there is none
abbrev pub IsUnsettled : A.Compared → Type 0
IsUnsettled (Untame because section offset) = ⊤
IsUnsettled Limit = ⊤
IsUnsettled (Same events) = ⊥
IsUnsettled (Differs index source image) = ⊥

-- how many addresses the walk of the first hart has
abbrev pub first_walk : List HartWalk → ℕ
first_walk [] = 0
first_walk (w ∷ walks) = w.walk

-- what is told where the run exits and the comparison finds the same
abbrev pub shown_of : ℕ → HardenedParts → Contents → RunReport → ℕ → ℕ → Shown
shown_of number hardened image report exit calls = record {
  object = length (object_bytes (demo_parts number));
  image = length hardened.image;
  code = length image.code;
  classes = count_by is_class hardened.graph.lines;
  sites = count_by is_site hardened.graph.lines;
  exit = exit;
  steps = report.steps;
  walk = first_walk report.walks;
  calls = calls;
}

-- the run exits, and then the comparison comes to a result
pub record IsDemoCompared (number : ℕ) (hardened : HardenedParts) (image : Contents) (report : RunReport) (exit : ℕ) (result : A.Compared) : Type 0 where
  pub run_is : IsDemoRun number hardened image report
  pub exits : report.end ≡ ends.Exit exit
  pub compared : IsComparedAt (entered (object_bytes (demo_parts number))) hardened.map image result

-- the run does not exit, or it does and the comparison is unsettled or finds the same
abbrev pub ExplainsDemo : ℕ → DemoOutcome → Type 0
ExplainsDemo number (outcome.Ran report) =
    (hardened : HardenedParts) × (image : Contents) × IsDemoRun number hardened image report × (IsExit report.end → ⊥)
ExplainsDemo number (outcome.Compared result) =
    (hardened : HardenedParts) × (image : Contents) × (report : RunReport) × (exit : ℕ)
    × IsDemoCompared number hardened image report exit result × IsUnsettled result
ExplainsDemo number (outcome.Shown shown) =
    (hardened : HardenedParts) × (image : Contents) × (report : RunReport) × (exit : ℕ) × (calls : ℕ)
    × IsDemoCompared number hardened image report exit (Same calls) × (shown ≡ shown_of number hardened image report exit calls)

abbrev pub image_line : Shown → List ℕ
image_line s =
    codes "image " ++ decimal s.image ++ codes " code " ++ decimal s.code ++ codes " classes " ++ decimal s.classes ++ codes " sites " ++ decimal s.sites

abbrev pub run_line : Shown → List ℕ
run_line s = codes "run exit " ++ decimal s.exit ++ codes " steps " ++ decimal s.steps ++ codes " walk " ++ decimal s.walk

-- four lines
abbrev pub shown_text : Shown → List ℕ
shown_text s =
    codes "object " ++ decimal s.object ++ codes " functions 2000\n" ++ image_line s ++ codes "\n" ++ run_line s
    ++ codes "\ncompare same " ++ decimal s.calls

abbrev pub demo_text : DemoOutcome → List ℕ
demo_text (outcome.Ran report) = report_text OneHart report
demo_text (outcome.Compared result) = with_newline (answer_text result)
demo_text (outcome.Shown shown) = with_newline (shown_text shown)

abbrev pub demo_status : DemoOutcome → ℕ
demo_status (outcome.Ran report) = end_status report.end
demo_status (outcome.Compared result) = answer_status result
demo_status (outcome.Shown shown) = 0

-- the text and the status of what the number comes to
abbrev pub IsDemonstrated : ℕ → ℕ → List ℕ → Type 0
IsDemonstrated number status text =
    (result : DemoOutcome) × ExplainsDemo number result × (status ≡ demo_status result) × (text ≡ demo_text result)
