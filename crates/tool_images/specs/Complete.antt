-- Completeness: where a command's files are delivered and nothing stands against what they hold, its status is that of its success.
use Rattle.std.specs.Prelude.{◌≡◌, ℕ, List, [], ◌∷◌, Ok}
use Rattle.rv_image.specs.Image.{Contents, image_profile}
use Rattle.rv_image.specs.MemoryMap.{MayRun}
use Rattle.cfi_graph.specs.Graph.{GraphParts}
use Rattle.cfi_rules.specs.Rules.{IsWellFormed, pair_profile}
use Rattle.cfi_script.specs.Script.{ScriptParts}
use Rattle.cfi_step.specs.declared.report.RunReport.{RunReport}
use Rattle.tool_common.specs.Held.{AreHeld}
use Rattle.tool_common.specs.Reads.{Content}
use Rattle.cfi_pair.specs.Spelled.{Spell}
use Rattle.tool_common.specs.Words.{text_named}
use Rattle.tool_report.specs.ReportText.{end_status}
use Rattle.cfi_launch.specs.SafeRun.{IsSafeRun}
use Rattle.cfi_launch.specs.Launch.{script_given}
use Rattle.tool_images.specs.Run.{RunWords, run_names}
use Rattle.tool_images.specs.Verify.{VerifyWords, verify_names}

-- a pair that meets the rules is accepted
abbrev pub VerifyIsComplete : Content → VerifyWords → ℕ → Type 0
VerifyIsComplete content words status =
    (image_bytes graph_bytes : List ℕ) (image : Contents) (graph : GraphParts)
    → AreHeld content (verify_names words) (image_bytes ∷ graph_bytes ∷ [])
    → Spell image_bytes graph_bytes image graph → IsWellFormed (pair_profile image graph) image graph → status ≡ 0

-- such a pair is run under a script of its form, whose harts the image may have, and the status is that of the end of
-- its run
abbrev pub RunIsComplete : Content → RunWords → ℕ → Type 0
RunIsComplete content words status =
    (image_bytes graph_bytes script_bytes input : List ℕ) (image : Contents) (graph : GraphParts) (script : ScriptParts)
    → AreHeld content (run_names words) (image_bytes ∷ graph_bytes ∷ script_bytes ∷ input ∷ [])
    → Spell image_bytes graph_bytes image graph → script_given (text_named words.script script_bytes) ≡ Ok script
    → MayRun (image_profile image) script.harts → IsWellFormed (pair_profile image graph) image graph
    → (report : RunReport) × IsSafeRun image graph script input words.limit report × (status ≡ end_status report.end)
