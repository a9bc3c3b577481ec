-- What holds of each step of a walk along the graph of a well-formed pair.
use Rattle.std.specs.Prelude.{◌≡◌, ℕ, ◌<◌, List}
use Rattle.std.specs.List.{AllByRecursion}
use Rattle.rv_image.specs.Image.{Contents}
use Rattle.rv_image.specs.MemoryMap.{IsProfile, Profile}
use Rattle.cfi_graph.specs.Graph.{GraphParts}
use Rattle.cfi_unit.specs.UnitWords.{DEEP}
use Rattle.cfi_rules.specs.Rules.{IsWellFormed}
use Rattle.cfi_rules.specs.Split.{code_words}
use Rattle.cfi_rules.specs.Walks.{IsStep, WalkState}

-- sites lie above the handlers
abbrev pub AreSites : List ℕ → Type 0
AreSites pending = AllByRecursion (λ site. DEEP < site) pending

-- an address fixes the step to it, and so the sites that are pending there
abbrev pub StepIsUnique : Type 0
StepIsUnique =
    (p : Profile) (image : Contents) (graph : GraphParts) (walk : WalkState) (pc : ℕ) (next other : WalkState) →
    IsProfile p → IsWellFormed p image graph → AreSites walk.pending →
    IsStep p (code_words image.code) graph.lines walk pc next →
    IsStep p (code_words image.code) graph.lines walk pc other →
    next ≡ other

-- a step leaves sites pending
abbrev pub StepKeepsSites : Type 0
StepKeepsSites =
    (p : Profile) (image : Contents) (graph : GraphParts) (walk : WalkState) (pc : ℕ) (next : WalkState) →
    IsProfile p → AreSites walk.pending → IsStep p (code_words image.code) graph.lines walk pc next →
    AreSites next.pending
