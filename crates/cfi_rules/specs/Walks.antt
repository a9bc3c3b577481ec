-- What a run along a graph is, in one sentence: the addresses of a hart's begun instructions at which
-- something starts are a list of steps of the graph walk, from the opening with nothing pending.
use Rattle.std.specs.Prelude.{◌≡◌, ℕ, ◌==◌, Bool, true, false, List, [], ◌∷◌, Option, Some, None}
use Rattle.rv_image.specs.Image.{Contents}
use Rattle.rv_image.specs.MemoryMap.{MayRun, Profile}
use Rattle.rv_code.specs.Run.{HartStep}
use Rattle.rv_code.specs.State.{Harts, Shared}
use Rattle.cfi_graph.specs.declared.line.GraphLine.{GraphLine}
use Rattle.cfi_unit.specs.declared.place.Place.{Place}
use Rattle.cfi_unit.specs.Prologue.{OPENING}
use Rattle.cfi_rules.specs.Along.{AreStepsOf, MayStart}
use Rattle.cfi_rules.specs.Split.{code_words, place_at}
use Rattle.cfi_rules.specs.Taken.{TakenStep, steps_taken}
use Rattle.cfi_rules.specs.Walk.{Goes}

-- the address, if something starts there
abbrev pub if_starts : Option Place → ℕ → List ℕ → List ℕ
if_starts None pc rest = rest
if_starts (Some place) pc rest = pc ∷ rest

-- what stands where a hart steps, if it is this one that steps
abbrev pub if_own : Bool → Option Place → Option Place
if_own true place = place
if_own false place = None

-- the walk of one hart, `k`, in a run of these steps
unfoldable pub walk_of : Profile → List ℕ → ℕ → List TakenStep → List ℕ
walk_of p words k [] = []
walk_of p words k (t ∷ rest) = if_starts (if_own (t.hart == k) (place_at p words t.before.pc)) t.before.pc (walk_of p words k rest)

-- where a walk has come to: an address, and the sites of the calls that are pending there, the newest
-- first
pub record WalkState : Type 0 where
  pub at : ℕ
  pub pending : List ℕ

-- each walk begins at the opening, with nothing pending
abbrev pub walk_start : WalkState
walk_start = record { at = OPENING; pending = [] }

-- something stands at the walk's address, and from there the graph goes on to `pc`, with the sites
-- pending that are pending in the next state
abbrev pub IsStep : Profile → List ℕ → List GraphLine → WalkState → ℕ → WalkState → Type 0
IsStep p words lines walk pc next =
    (place : Place) × (place_at p words walk.at ≡ Some place)
    × (next.at ≡ pc) × Goes p lines place walk.at walk.pending pc next.pending

-- the addresses follow one another by steps of the graph walk
abbrev pub AreSteps : Profile → List ℕ → List GraphLine → WalkState → List ℕ → Type 0
AreSteps p words lines walk [] = Unit {0}
AreSteps p words lines walk (v ∷ vs) = (next : WalkState) × IsStep p words lines walk v next × AreSteps p words lines next vs

abbrev pub IsGraphWalk : Profile → List ℕ → List GraphLine → List ℕ → Type 0
IsGraphWalk p words lines [] = Unit {0}
IsGraphWalk p words lines (v ∷ vs) = (v ≡ OPENING) × AreSteps p words lines walk_start vs

-- the walk of a hart in a run of an image goes from the opening to these addresses
pub record IsWalked (p : Profile) (image : Contents) (addresses : List ℕ) : Type 0 where
  pub count : ℕ
  pub harts : Harts
  pub shared : Shared
  pub steps : List HartStep
  pub hart : ℕ
  pub may : MayRun p count
  pub start : MayStart image count harts shared
  pub allowed : AreStepsOf count steps
  pub walk : walk_of p (code_words image.code) hart (steps_taken p harts shared steps) ≡ OPENING ∷ addresses
