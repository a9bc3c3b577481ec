-- What the library tells C of a run: the numbers of what it comes to, and what it wrote.
use Rattle.std.specs.Prelude.{◌≡◌, ◌⊎◌, ℕ, List, [], ◌∷◌, Option, None, Some, Result, Ok, Err, length}
use Rattle.rv_image.specs.declared.version.ImageVersion.{ImageVersion}
use Rattle.rv_image.specs.Image.{Contents, image_profile}
use Rattle.rv_image.specs.MemoryMap.{MayRun}
use Rattle.cfi_graph.specs.Graph.{GraphParts}
use Rattle.cfi_rules.specs.Rules.{IsWellFormed, pair_profile}
use Rattle.cfi_script.specs.Script.{ScriptParts}
use Rattle.cfi_step.specs.declared.report.Handler.TheVariants.{BadTarget, BadReturn, Deep}
use Rattle.cfi_step.specs.declared.report.RunEnd.{RunEnd}
use Rattle.cfi_step.specs.declared.report.RunEnd.TheVariants as ends
use Rattle.cfi_step.specs.declared.report.RunReport.{RunReport}
use Rattle.cfi_pair.specs.Numbers.{numbers, reason_number, verdict_of}
use Rattle.cfi_pair.specs.Room.{held}
use Rattle.cfi_pair.specs.Spelled.{Spell}
use Rattle.cfi_pair.specs.declared.judging.Verdict.TheVariants as verdicts
use Rattle.rv_word.specs.declared.end.End.TheVariants as pair
use Rattle.cfi_pair.specs.declared.verdict.RvcfiVerdict.{RvcfiVerdict}
use Rattle.cfi_launch.specs.Launch.{IsLaunchEnd, IsLaunchOf, script_given}
use Rattle.rv_word.specs.declared.end.End.{End}
use Rattle.cfi_launch.specs.declared.launching.LaunchFault.{LaunchFault}
use Rattle.rv_word.specs.declared.end.End.TheVariants.{Fault, NoMemory}
use Rattle.cfi_launch.specs.declared.launching.LaunchFault.TheVariants.{Pair, Script, Harts}
use Rattle.cfi_launch.specs.declared.launching.Launched.{Launched}
use Rattle.cfi_launch.specs.declared.launching.Launched.TheVariants.{Rejected, Ran}
use Rattle.rvcfi_run_c.specs.declared.told.RvcfiRun.{RvcfiRun}

-- no text is no script
abbrev pub script_in : List ℕ → Option (List ℕ)
script_in [] = None
script_in (byte ∷ bytes) = Some (byte ∷ bytes)

-- how a run stopped, and two numbers of it
abbrev pub stop_of : RunEnd → ℕ × ℕ × ℕ
stop_of ends.Limit = (0, 0, 0)
stop_of (ends.Exit status) = (1, status, 0)
stop_of (ends.Handler BadTarget) = (2, 1, 0)
stop_of (ends.Handler BadReturn) = (2, 2, 0)
stop_of (ends.Handler Deep) = (2, 3, 0)
stop_of (ends.Break pc) = (3, pc, 0)
stop_of (ends.LoadFault pc address) = (4, pc, address)

-- no run
abbrev pub not_run : RvcfiVerdict → RvcfiRun
not_run v = record {
  outcome = v.outcome;
  reason = v.reason;
  first = v.first;
  second = v.second;
  stop = 0;
  hart = 0;
  value = 0;
  address = 0;
  steps = 0;
  written = 0;
}

abbrev pub run_of : Result Launched (End LaunchFault) → RvcfiRun
run_of (Ok (Ran version report)) = record {
  outcome = 0;
  reason = 0;
  first = 0;
  second = 0;
  stop = (stop_of report.end).0;
  hart = report.hart;
  value = (stop_of report.end).1;
  address = (stop_of report.end).2;
  steps = report.steps;
  written = length report.output;
}
run_of (Ok (Rejected reject)) = not_run (verdict_of (Ok (verdicts.Rejected reject)))
run_of (Err (Fault (Pair fault))) = not_run (verdict_of (Err (pair.Fault fault)))
run_of (Err (Fault (Script line why))) = not_run (numbers 5 (reason_number why) line 0)
run_of (Err (Fault (Harts count))) = not_run (numbers 6 0 count 0)
run_of (Err NoMemory) = not_run (verdict_of (Err pair.NoMemory))

-- what a run may come to: of want of memory nothing
abbrev pub IsSaid : List ℕ → List ℕ → Option (List ℕ) → List ℕ → ℕ → Result Launched (End LaunchFault) → Type 0
IsSaid image graph script input limit (Ok launched) = IsLaunchOf image graph script input limit launched
IsSaid image graph script input limit (Err end) = IsLaunchEnd image graph script end

-- the numbers tell what the run comes to
abbrev pub IsToldOf : List ℕ → List ℕ → Option (List ℕ) → List ℕ → ℕ → RvcfiRun → Type 0
IsToldOf image graph script input limit run =
    (said : Result Launched (End LaunchFault)) × IsSaid image graph script input limit said × (run ≡ run_of said)

-- what stands at output after a call: what a run wrote, as much of it as there is room for
abbrev pub output_of : Result Launched (End LaunchFault) → List ℕ → List ℕ
output_of (Ok (Ran version report)) before = held report.output before
output_of other before = before

-- it ran: the report of a safe pair's run, its numbers, and what it wrote
abbrev pub IsRan : List ℕ → List ℕ → Option (List ℕ) → List ℕ → ℕ → List ℕ → List ℕ → RvcfiRun → Type 0
IsRan image graph script input limit before after run =
    (version : ImageVersion) × (report : RunReport) × IsLaunchOf image graph script input limit (Ran version report)
    × (run ≡ run_of (Ok (Ran version report))) × (after ≡ held report.output before)

-- every pair that meets the rules is run under a script whose harts it may have, but for want of memory
abbrev pub IsComplete : List ℕ → List ℕ → Option (List ℕ) → ℕ → Type 0
IsComplete image_bytes graph_bytes script outcome =
    (image : Contents) (graph : GraphParts) (read : ScriptParts) → Spell image_bytes graph_bytes image graph → script_given script ≡ Ok read
    → MayRun (image_profile image) read.harts → IsWellFormed (pair_profile image graph) image graph → (outcome ≡ 0) ⊎ (outcome ≡ 4)
