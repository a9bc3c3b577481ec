-- A list of addresses to which a walk goes, one after another, as far as there are steps.
use Rattle.std.specs.Prelude.{◌≡◌, ℕ, ◌⊎◌, List, [], ◌∷◌}
use Rattle.rv_image.specs.MemoryMap.{Profile}
use Rattle.cfi_graph.specs.declared.line.GraphLine.{GraphLine}
use Rattle.cfi_rules.specs.Walks.{IsStep, WalkState}

-- the addresses lead from the walk's state to the last one, a step each
abbrev pub LeadTo : Profile → List ℕ → List GraphLine → WalkState → List ℕ → WalkState → Type 0
LeadTo p words lines walk [] last = last ≡ walk
LeadTo p words lines walk (v ∷ vs) last =
    (next : WalkState) × IsStep p words lines walk v next × LeadTo p words lines next vs last

-- the first of them lead to the last state, and from there no step leads to the address after these
abbrev pub StopAt : Profile → List ℕ → List GraphLine → WalkState → List ℕ → WalkState → Type 0
StopAt p words lines walk [] last = ⊥
StopAt p words lines walk (v ∷ vs) last =
    ((last ≡ walk) × ((next : WalkState) → IsStep p words lines walk v next → ⊥))
    ⊎ ((next : WalkState) × IsStep p words lines walk v next × StopAt p words lines next vs last)
