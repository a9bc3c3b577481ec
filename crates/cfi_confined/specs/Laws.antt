-- What holds of confined runs, and that what meets the rules is confined.
use Rattle.std.specs.Prelude.{◌≡◌, ℕ, List, Option, Some}
use Rattle.rv_image.specs.Image.{Contents, loaded}
use Rattle.rv_image.specs.MemoryMap.{IsProfile, MayRun, Profile}
use Rattle.rv_instr.specs.declared.instr.Instr.{Instr}
use Rattle.rv_code.specs.Run.{HartStep, run}
use Rattle.rv_code.specs.State.{Harts, Shared}
use Rattle.cfi_graph.specs.Graph.{GraphParts, IsGraph, calls_in}
use Rattle.cfi_unit.specs.Context.{IsCodeOf}
use Rattle.cfi_rules.specs.Along.{AreStepsOf, MayStart}
use Rattle.cfi_rules.specs.Laws.{AreBytes}
use Rattle.cfi_rules.specs.Listed.{IsListed}
use Rattle.cfi_rules.specs.Rules.{IsWellFormed}
use Rattle.cfi_confined.specs.Confined.{IsConfined, Moves}

-- what meets the rules is confined
abbrev pub WellFormedIsConfined : Type 0
WellFormedIsConfined =
    (p : Profile) (image : Contents) (graph : GraphParts) → IsProfile p → AreBytes image → IsGraph graph → IsWellFormed p image graph →
    IsConfined p image graph

-- what is confined with a list of system calls makes no others
abbrev pub ConfinedIsListed : Type 0
ConfinedIsListed =
    (p : Profile) (image : Contents) (graph : GraphParts) (calls : List ℕ) → calls_in graph.lines ≡ Some calls → IsConfined p image graph →
    IsListed p image calls

-- after any steps of what is confined the code in memory is the image's
abbrev pub ConfinedKeepsCode : Type 0
ConfinedKeepsCode =
    (p : Profile) (image : Contents) (graph : GraphParts) (count : ℕ) (harts : Harts) (s : Shared) (steps : List HartStep) →
    IsConfined p image graph → MayRun p count → MayStart image count harts s → AreStepsOf count steps →
    IsCodeOf (loaded image) (run p harts s steps).shared.memory

-- an instruction, and where it leads, leave no choice of which calls are pending after it
abbrev pub PendingIsTold : Type 0
PendingIsTold =
    (p : Profile) (graph : GraphParts) (code : ℕ → Option Instr) (instr : Option Instr) (pc : ℕ) (pending : List ℕ) (to : ℕ) (newer other : List ℕ) →
    Moves p graph code instr pc pending to newer → Moves p graph code instr pc pending to other → newer ≡ other
