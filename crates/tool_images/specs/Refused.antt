-- Why the tool refuses the files of an image, its graph and its script.
use Rattle.std.specs.Prelude.{ℕ, List, Option}
use Rattle.cfi_launch.specs.Launch.{IsLaunchFault}
use Rattle.cfi_launch.specs.declared.launching.LaunchFault.TheVariants as faults
use Rattle.cfi_pair.specs.declared.opening.PairFault.TheVariants as pair
use Rattle.refusals.specs.declared.refusal.Refusal.{Refusal}
use Rattle.refusals.specs.declared.refusal.Refusal.TheVariants.{Image, Graph, Script, Harts}

-- a refusal tells the fault of the files
abbrev pub IsRefusal : List ℕ → List ℕ → Option (List ℕ) → Refusal → Type 0
IsRefusal image graph script (Image refusal) = IsLaunchFault image graph script (faults.Pair (pair.Image refusal))
IsRefusal image graph script (Graph line reason) = IsLaunchFault image graph script (faults.Pair (pair.Graph line reason))
IsRefusal image graph script (Script line reason) = IsLaunchFault image graph script (faults.Script line reason)
IsRefusal image graph script (Harts count) = IsLaunchFault image graph script (faults.Harts count)
IsRefusal image graph script other = ⊥
