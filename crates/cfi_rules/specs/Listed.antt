-- A run in which harts make no other system calls than those of a list, but for the closing's exit.
use Rattle.std.specs.Prelude.{◌≡◌, ℕ, ◌+◌, ◌⊎◌, IsTrue, List, [], ◌∷◌, ◌++◌, Some}
use Rattle.std.specs.List.{AllByRecursion}
use Rattle.rv_image.specs.Image.{Contents}
use Rattle.rv_image.specs.MemoryMap.{IsProfile, MayRun, Profile}
use Rattle.rv_word.specs.Numbers.{is_listed}
use Rattle.rv_code.specs.Run.{HartStep}
use Rattle.rv_code.specs.State.{Harts, Shared}
use Rattle.rv_code.specs.declared.event.Event.{Event}
use Rattle.cfi_graph.specs.Graph.{GraphParts, calls_in}
use Rattle.cfi_rules.specs.Along.{AreStepsOf, MayStart}
use Rattle.cfi_rules.specs.Laws.{AreBytes}
use Rattle.cfi_rules.specs.Rules.{IsWellFormed}
use Rattle.cfi_rules.specs.Taken.{TakenStep, steps_taken}

-- a system call of an instruction at `pc` has a number of the list, or is the closing's exit
abbrev pub IsListedCall : Profile → List ℕ → ℕ → Event → Type 0
IsListedCall p calls pc e = IsTrue (is_listed e.number calls) ⊎ ((pc ≡ p.closing + 4) × (e.number ≡ 93))

-- the events after a step: those before it, and at most one more, which is such a call
abbrev pub AddsListed : Profile → List ℕ → TakenStep → Type 0
AddsListed p calls t =
    (t.after.shared.events ≡ t.shared.events)
    ⊎ ((e : Event) × (t.after.shared.events ≡ t.shared.events ++ e ∷ []) × IsListedCall p calls t.before.pc e)

-- listed: for every count of harts, every start and every list of the harts' steps, between which data change,
-- each step that the run takes adds no other
abbrev pub IsListed : Profile → Contents → List ℕ → Type 0
IsListed p image calls =
    (count : ℕ) → MayRun p count → (harts : Harts) (s : Shared) → MayStart image count harts s → (steps : List HartStep) → AreStepsOf count steps
    → AllByRecursion (AddsListed p calls) (steps_taken p harts s steps)

-- what meets the rules with a list of system calls makes no others
abbrev pub WellFormedIsListed : Type 0
WellFormedIsListed =
    (p : Profile) (image : Contents) (graph : GraphParts) (calls : List ℕ) → IsProfile p → AreBytes image → IsWellFormed p image graph →
    calls_in graph.lines ≡ Some calls → IsListed p image calls
