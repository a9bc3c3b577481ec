-- A run of an image with its graph under a script, and why there is none.
use Rattle.std.specs.Prelude.{◌≡◌, ◌⊎◌, ◌<◌, ℕ, List, ⊤, Option, Some, None, Result, Ok, Err}
use Rattle.rv_image.specs.Image.{Contents, image_profile}
use Rattle.rv_image.specs.MemoryMap.{MayRun}
use Rattle.rv_image.specs.declared.version.ImageVersion.TheVariants.{OneHart}
use Rattle.rv_word.specs.declared.end.End.{End}
use Rattle.text_lines.specs.declared.fault.LineFault.{LineFault}
use Rattle.text_lines.specs.Answers.{line_fault}
use Rattle.elf_image.specs.Fault.{version_in}
use Rattle.cfi_graph.specs.Graph.{GraphParts}
use Rattle.cfi_rules.specs.Rules.{IsRejected, IsWellFormed, pair_profile}
use Rattle.cfi_script.specs.Script.{ScriptParts}
use Rattle.cfi_script.specs.ScriptText.{script_of}
use Rattle.cfi_pair.specs.Opening.{AreRead, IsPairFault}
use Rattle.cfi_pair.specs.Spelled.{Spell}
use Rattle.cfi_launch.specs.SafeRun.{IsSafeRun, undisturbed_script}
use Rattle.rv_word.specs.declared.end.End.TheVariants.{Fault, NoMemory}
use Rattle.cfi_launch.specs.declared.launching.LaunchFault.{LaunchFault}
use Rattle.cfi_launch.specs.declared.launching.LaunchFault.TheVariants.{Pair, Script, Harts}
use Rattle.cfi_launch.specs.declared.launching.Launched.{Launched}
use Rattle.cfi_launch.specs.declared.launching.Launched.TheVariants.{Rejected, Ran}

-- the script that a text spells; without one a single hart runs, undisturbed
abbrev pub script_given : Option (List ℕ) → Result ScriptParts (End LineFault)
script_given None = Ok undisturbed_script
script_given (Some text) = script_of text

-- the image is refused where its bytes have a fault, then the graph, then the script, each at its first line that fails; without
-- a script none is refused. A script for several harts is refused last, where the image is for one
abbrev pub IsLaunchFault : List ℕ → List ℕ → Option (List ℕ) → LaunchFault → Type 0
IsLaunchFault image graph script (Pair fault) = IsPairFault image graph fault
IsLaunchFault image graph script (Script line reason) =
    ((parts : GraphParts) × AreRead image graph parts) × (script_given script ≡ Err (line_fault line reason))
IsLaunchFault image graph script (Harts count) =
    ((parts : GraphParts) × AreRead image graph parts)
    × ((read : ScriptParts) × (script_given script ≡ Ok read) × (read.harts ≡ count))
    × (1 < count) × (version_in image ≡ OneHart)

-- why there is no run; only want of memory is free
abbrev pub IsLaunchEnd : List ℕ → List ℕ → Option (List ℕ) → End LaunchFault → Type 0
IsLaunchEnd image graph script (Fault fault) = IsLaunchFault image graph script fault
IsLaunchEnd image graph script NoMemory = ⊤

-- the pair is rejected, or it is run
abbrev pub IsLaunchOfPair : Contents → GraphParts → ScriptParts → List ℕ → ℕ → Launched → Type 0
IsLaunchOfPair image graph script input limit (Rejected reject) = IsRejected (pair_profile image graph) image graph reject
IsLaunchOfPair image graph script input limit (Ran version report) = (version ≡ image.version) × IsSafeRun image graph script input limit report

-- the texts spell a pair and a script, whose harts the image may have, of which this comes
abbrev pub IsLaunchOf : List ℕ → List ℕ → Option (List ℕ) → List ℕ → ℕ → Launched → Type 0
IsLaunchOf image_bytes graph_bytes script input limit launched =
    (image : Contents) × (graph : GraphParts) × (read : ScriptParts)
    × Spell image_bytes graph_bytes image graph × (script_given script ≡ Ok read) × MayRun (image_profile image) read.harts
    × IsLaunchOfPair image graph read input limit launched

-- it was run
abbrev pub HasRun : Result Launched (End LaunchFault) → Type 0
HasRun (Ok (Ran version report)) = ⊤
HasRun other = ⊥

-- every pair that meets the rules is run under a script of its form whose harts it may have, but for want of memory
abbrev pub IsComplete : List ℕ → List ℕ → Option (List ℕ) → Result Launched (End LaunchFault) → Type 0
IsComplete image_bytes graph_bytes script result =
    (image : Contents) (graph : GraphParts) (read : ScriptParts) → Spell image_bytes graph_bytes image graph → script_given script ≡ Ok read
    → MayRun (image_profile image) read.harts → IsWellFormed (pair_profile image graph) image graph → HasRun result ⊎ (result ≡ Err NoMemory)
