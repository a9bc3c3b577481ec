-- Each command is complete: where its files are delivered, an outcome that is explained is determined by them.
use Rattle.std.proofs.Common.{◌≡◌, ℕ, List, Option, None, Ok, refl, subst}
use Rattle.rv_image.specs.Image.{Contents, image_profile}
use Rattle.rv_image.specs.MemoryMap.{MayRun}
use Rattle.cfi_graph.specs.Graph.{GraphParts}
use Rattle.cfi_script.specs.Script.{ScriptParts}
use Rattle.cfi_step.specs.declared.report.RunReport.{RunReport}
use Rattle.cfi_rules.specs.Rules.{IsWellFormed, pair_profile}
use Rattle.tool_common.specs.Reads.{Content}
use Rattle.cfi_pair.specs.Spelled.{Spell}
use Rattle.cfi_pair.proofs.Determined.{none_rejected, one_pair}
use Rattle.tool_common.specs.Words.{text_named}
use Rattle.refusals.specs.declared.refusal.Refusal.{Refusal}
use Rattle.refusals.specs.declared.refusal.Refusal.TheVariants.{Graph, Harts, Image, Script}
use Rattle.tool_common.proofs.Held.{same_bytes, same_named}
use Rattle.tool_report.specs.ReportText.{end_status}
use Rattle.cfi_launch.specs.SafeRun.{IsSafeRun, undisturbed_script}
use Rattle.tool_images.specs.Complete.{RunIsComplete, VerifyIsComplete}
use Rattle.cfi_launch.specs.Launch.{IsLaunchFault, script_given}
use Rattle.cfi_launch.specs.declared.launching.LaunchFault.{LaunchFault}
use Rattle.cfi_launch.specs.declared.launching.LaunchFault.TheVariants as faults
use Rattle.cfi_launch.proofs.Determined.{no_launch_fault}
use Rattle.cfi_launch.proofs.ScriptHarts.{one_may_run}
use Rattle.cfi_pair.specs.declared.opening.PairFault.TheVariants as pair
use Rattle.tool_images.specs.Refused.{IsRefusal}
use Rattle.tool_images.specs.Run.{ExplainsRun, IsRunOf, RunWords, run_status}
use Rattle.tool_images.specs.Verify.{ExplainsVerdict, IsVerdictOf, VerifyWords, verdict_status}
use Rattle.tool_images.specs.declared.run.RunOutcome as N
use Rattle.tool_images.specs.declared.run.RunOutcome.TheVariants as runs
use Rattle.tool_images.specs.declared.verify.Verdict as D
use Rattle.tool_images.specs.declared.verify.Verdict.TheVariants as verdicts

module _ (image_bytes graph_bytes : List ℕ) (image : Contents) (graph : GraphParts) (spell : Spell image_bytes graph_bytes image graph) where
  no_fault : (script : Option (List ℕ)) (read : ScriptParts) → script_given script ≡ Ok read → MayRun (image_profile image) read.harts
      → (fault : LaunchFault) → IsLaunchFault image_bytes graph_bytes script fault → ⊥
  no_fault = no_launch_fault image_bytes graph_bytes image graph spell

  no_refusal : (script : Option (List ℕ)) (read : ScriptParts) → script_given script ≡ Ok read → MayRun (image_profile image) read.harts
      → (refusal : Refusal) → IsRefusal image_bytes graph_bytes script refusal → ⊥
  no_refusal script read given may (Image refusal) is = no_fault script read given may (faults.Pair (pair.Image refusal)) is
  no_refusal script read given may (Graph line reason) is = no_fault script read given may (faults.Pair (pair.Graph line reason)) is
  no_refusal script read given may (Script line reason) is = no_fault script read given may (faults.Script line reason) is
  no_refusal script read given may (Harts count) is = no_fault script read given may (faults.Harts count) is
  no_refusal script read given may other is = is

  module _ (well : IsWellFormed (pair_profile image graph) image graph) where
    judged : (verdict : D.Verdict) → IsVerdictOf image_bytes graph_bytes verdict → verdict_status verdict ≡ 0
    judged verdicts.Accepted is = refl
    judged (verdicts.Refused refusal) is = absurd (no_refusal None undisturbed_script refl (one_may_run image.version) refusal is)
    judged (verdicts.Rejected reject) is = let (other, lines, spelled, rejected) = is in absurd (none_rejected image_bytes graph_bytes image graph spell well other lines reject spelled rejected)

    module _ (script : Option (List ℕ)) (read : ScriptParts) (given : script_given script ≡ Ok read) (may : MayRun (image_profile image) read.harts)
        (input : List ℕ) (limit : ℕ) where
      safe_run : (other : Contents) (lines : GraphParts) (made : ScriptParts) (report : RunReport) → Spell image_bytes graph_bytes other lines
          → script_given script ≡ Ok made → IsSafeRun other lines made input limit report → IsSafeRun image graph read input limit report
      safe_run other lines made report is second safe =
          let same = one_pair image_bytes graph_bytes image graph spell other lines is in
          let one : made ≡ read = cc (second, given) in
          subst (λ (s : ScriptParts). IsSafeRun image graph s input limit report) one
          (subst (λ (g : GraphParts). IsSafeRun image g made input limit report) same.1
          (subst (λ (i : Contents). IsSafeRun i lines made input limit report) same.0 safe))

      ran : (result : N.RunOutcome) → IsRunOf image_bytes graph_bytes script input limit result
          → (report : RunReport) × IsSafeRun image graph read input limit report × (run_status result ≡ end_status report.end)
      ran (runs.Refused refusal) is = absurd (no_refusal script read given may refusal is)
      ran (runs.Rejected reject) is =
          let (other, lines, made, spelled, second, allowed, rejected) = is in absurd (none_rejected image_bytes graph_bytes image graph spell well other lines reject spelled rejected)
      ran (runs.Ran version report) is =
          let (other, lines, made, spelled, second, allowed, (told, safe)) = is in
          (report, safe_run other lines made report spelled second safe, refl)

pub verify_complete : (content : Content) (words : VerifyWords) (verdict : D.Verdict) → ExplainsVerdict content words verdict
    → VerifyIsComplete content words (verdict_status verdict)
verify_complete content words verdict is = λ image_bytes graph_bytes image graph held spell well.
    let image_same = same_bytes (content words.image) image_bytes is.image_bytes held.0 is.image_gave in
    let graph_same = same_bytes (content words.graph) graph_bytes is.graph_bytes held.1.0 is.graph_gave in
    judged image_bytes graph_bytes image graph spell well verdict
    (subst (λ (g : List ℕ). IsVerdictOf image_bytes g verdict) graph_same
    (subst (λ (i : List ℕ). IsVerdictOf i is.graph_bytes verdict) image_same is.verdict_is))

pub run_complete : (content : Content) (words : RunWords) (result : N.RunOutcome) → ExplainsRun content words result
    → RunIsComplete content words (run_status result)
run_complete content words result is = λ image_bytes graph_bytes script_bytes input image graph read held spell given may well.
    let image_same = same_bytes (content words.image) image_bytes is.image_bytes held.0 is.image_gave in
    let graph_same = same_bytes (content words.graph) graph_bytes is.graph_bytes held.1.0 is.graph_gave in
    let script_same = same_named content words.script script_bytes is.script_bytes held.1.1.0 is.script_gave in
    let input_same = same_named content words.input input is.input_bytes held.1.1.1.0 is.input_gave in
    ran image_bytes graph_bytes image graph spell well (text_named words.script script_bytes) read given may input words.limit result
    (subst (λ (n : List ℕ). IsRunOf image_bytes graph_bytes (text_named words.script script_bytes) n words.limit result) input_same
    (subst (λ (s : List ℕ). IsRunOf image_bytes graph_bytes (text_named words.script s) is.input_bytes words.limit result) script_same
    (subst (λ (g : List ℕ). IsRunOf image_bytes g (text_named words.script is.script_bytes) is.input_bytes words.limit result) graph_same
    (subst (λ (i : List ℕ). IsRunOf i is.graph_bytes (text_named words.script is.script_bytes) is.input_bytes words.limit result) image_same is.run_is))))
