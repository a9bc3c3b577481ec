-- `run IMAGE GRAPH SCRIPT INPUT STEPS`: a run of an accepted image. The word `none` for SCRIPT or INPUT
-- means no file.
use Rattle.std.specs.Prelude.{◌≡◌, ℕ, List, [], ◌∷◌, Option, Some, None, option_map}
use Rattle.rv_image.specs.declared.version.ImageVersion.{ImageVersion}
use Rattle.cfi_step.specs.declared.report.RunReport.{RunReport}
use Rattle.tool_common.specs.Lines.{with_newline}
use Rattle.cfi_launch.specs.Launch.{IsLaunchOf}
use Rattle.cfi_launch.specs.declared.launching.Launched.TheVariants as launched
use Rattle.tool_images.specs.Refused.{IsRefusal}
use Rattle.tool_images.specs.Verify.{rejected_line}
use Rattle.tool_common.specs.Reads.{Content, Gave, GaveNamed}
use Rattle.refusals.specs.Refusals.{refusal_line}
use Rattle.tool_report.specs.ReportText.{end_status, report_text}
use Rattle.tool_common.specs.Words.{file_word, steps_of, text_named}
use Rattle.tool_images.specs.declared.run.RunOutcome.{RunOutcome}
use Rattle.tool_images.specs.declared.run.RunOutcome.TheVariants.{Refused, Rejected, Ran}
use Rattle.tool_images.specs.declared.run.RunRequest.{RunRequest}

-- what is asked for: the names of the files, and how many steps the run takes at most
pub record RunWords : Type 0 where
  pub image : List ℕ
  pub graph : List ℕ
  pub script : Option (List ℕ)
  pub input : Option (List ℕ)
  pub limit : ℕ

-- what the words after the command ask for, if they are taken
abbrev pub run_words : List (List ℕ) → Option RunWords
run_words (image ∷ graph ∷ script ∷ input ∷ steps ∷ []) =
    option_map (λ limit. record { image = image; graph = graph; script = file_word script; input = file_word input; limit = limit }) (steps_of steps)
run_words words = None

-- the files that are read, in their order
abbrev pub run_names : RunWords → List (Option (List ℕ))
run_names asks = Some asks.image ∷ Some asks.graph ∷ asks.script ∷ asks.input ∷ []

-- a request as the tool keeps it
abbrev pub run_asked : RunRequest → RunWords
run_asked r = record { image = r.image.now; graph = r.graph.now; script = option_map (λ name. name.now) r.script; input = option_map (λ name. name.now) r.input; limit = r.limit }

-- a file is refused, and only where none is the pair is rejected, or it is run
abbrev pub IsRunOf : List ℕ → List ℕ → Option (List ℕ) → List ℕ → ℕ → RunOutcome → Type 0
IsRunOf image graph script input limit (Refused refusal) = IsRefusal image graph script refusal
IsRunOf image graph script input limit (Rejected reject) = IsLaunchOf image graph script input limit (launched.Rejected reject)
IsRunOf image graph script input limit (Ran version report) = IsLaunchOf image graph script input limit (launched.Ran version report)

-- the files gave bytes of which the run comes to this
pub record ExplainsRun (content : Content) (asks : RunWords) (outcome : RunOutcome) : Type 0 where
  pub image_bytes : List ℕ
  pub graph_bytes : List ℕ
  pub script_bytes : List ℕ
  pub input_bytes : List ℕ
  pub image_gave : Gave (content asks.image) image_bytes
  pub graph_gave : Gave (content asks.graph) graph_bytes
  pub script_gave : GaveNamed content asks.script script_bytes
  pub input_gave : GaveNamed content asks.input input_bytes
  pub run_is : IsRunOf image_bytes graph_bytes (text_named asks.script script_bytes) input_bytes asks.limit outcome

abbrev pub run_text : RunOutcome → List ℕ
run_text (Refused refusal) = with_newline (refusal_line refusal)
run_text (Rejected reject) = with_newline (rejected_line reject)
run_text (Ran version report) = report_text version report

abbrev pub run_status : RunOutcome → ℕ
run_status (Refused refusal) = 1
run_status (Rejected reject) = 1
run_status (Ran version report) = end_status report.end

-- the files spell a safe pair, a script and an input; the text is the report of that run, and the status
-- that of its end
abbrev pub IsRan : Content → RunWords → ℕ → List ℕ → Type 0
IsRan content asks status text =
    (version : ImageVersion) × (report : RunReport) × ExplainsRun content asks (Ran version report)
    × (status ≡ end_status report.end) × (text ≡ report_text version report)
