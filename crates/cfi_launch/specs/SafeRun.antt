-- What the report of a run says: the pair meets the rules, is safe and is confined, so that the program makes no system calls but those of
-- the graph's list, if there is one (`confined_is_listed` of cfi_confined), and this is its run under a script.
use Rattle.std.specs.Prelude.{ℕ, List, []}
use Rattle.rv_image.specs.Image.{Contents}
use Rattle.rv_code.specs.State.{start_hart, start_shared}
use Rattle.cfi_graph.specs.Graph.{GraphParts}
use Rattle.cfi_confined.specs.Confined.{IsConfined}
use Rattle.cfi_rules.specs.Along.{IsSafe}
use Rattle.cfi_rules.specs.Rules.{IsWellFormed, pair_profile}
use Rattle.cfi_script.specs.Plan.{planned}
use Rattle.cfi_step.specs.Report.{IsReport}
use Rattle.cfi_script.specs.Script.{ScriptParts, script_plan}
use Rattle.cfi_step.specs.declared.report.RunReport.{RunReport}

-- one hart, without turns and changes
abbrev pub undisturbed_script : ScriptParts
undisturbed_script = record { harts = 1; turns = []; changes = [] }

-- a report of a safe pair's run under a script, with its harts, their turns and its changes
pub record IsSafeRun (image : Contents) (graph : GraphParts) (script : ScriptParts) (input : List ℕ) (limit : ℕ) (report : RunReport) : Type 0 where
  pub well_formed : IsWellFormed (pair_profile image graph) image graph
  pub safe : IsSafe (pair_profile image graph) image graph
  pub confined : IsConfined (pair_profile image graph) image graph
  pub report_is : IsReport (pair_profile image graph) image input script.harts
      (planned (pair_profile image graph) (script_plan script) script.harts 0 start_hart (start_shared image input) limit) report
