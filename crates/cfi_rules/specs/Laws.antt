-- What holds of well-formed pairs and of runs along a graph.
use Rattle.std.specs.Prelude.{◌≡◌, ℕ, ◌<◌, ◌^◌, List, [], ◌∷◌, length, slice_index}
use Rattle.std.specs.List.{AllByRecursion}
use Rattle.rv_image.specs.Image.{Contents, IsImageSize}
use Rattle.rv_image.specs.MemoryMap.{IsProfile, MayRun, Profile}
use Rattle.rv_code.specs.Run.{HartStep, RunAfter, run}
use Rattle.rv_code.specs.State.{Harts, Shared, start_hart, start_shared, with_hart}
use Rattle.rv_code.specs.declared.turn.Turn.TheVariants.{Ran}
use Rattle.cfi_graph.specs.Graph.{GraphParts}
use Rattle.cfi_unit.specs.declared.unit.Unit as U
use Rattle.cfi_unit.specs.Split.{IsSplit}
use Rattle.cfi_rules.specs.Along.{AllRunAlong, AreStepsOf, IsSafe, MayStart}
use Rattle.cfi_rules.specs.Reading.{AreUnitsOf}
use Rattle.cfi_rules.specs.Rules.{IsWellFormed}
use Rattle.cfi_rules.specs.Split.{code_words, place_at, unit_words, unit_at, unit_in}
use Rattle.cfi_rules.specs.Taken.{TakenStep, steps_taken}
use Rattle.cfi_rules.specs.Trails.{trail_of, IsInPlace}
use Rattle.cfi_rules.specs.Walks.{walk_of, IsGraphWalk}

-- the contents of a file: bytes, of an image's lengths
pub record AreBytes (image : Contents) : Type 0 where
  pub code : (k : ℕ) → slice_index image.code k < 2 ^ 8
  pub init : (k : ℕ) → slice_index image.init k < 2 ^ 8
  pub size : IsImageSize (length image.code) (length image.init)

-- what meets the rules is safe
abbrev pub WellFormedIsSafe : Type 0
WellFormedIsSafe =
    (p : Profile) (image : Contents) (graph : GraphParts) → IsProfile p → AreBytes image → IsWellFormed p image graph → IsSafe p image graph

-- from where the profile says on, the code of what meets the rules is split into units, and a unit
-- starts at an address exactly where one of the split does
abbrev pub CodeIsSplit : Type 0
CodeIsSplit =
    (p : Profile) (image : Contents) (graph : GraphParts) → IsProfile p → AreBytes image → IsWellFormed p image graph →
    (units : List U.Unit)
    × IsSplit (unit_words p (code_words image.code)) p.units_from units
    × ((a : ℕ) → unit_at p (code_words image.code) a ≡ unit_in units p.units_from a)

-- the units that a code's words are read as start where those that are recognised do: so there are no others
abbrev pub ReadUnits : Type 0
ReadUnits =
    (p : Profile) (words : List ℕ) (units : List U.Unit) → AreUnitsOf p words units → (a : ℕ) → unit_at p words a ≡ unit_in units p.units_from a

-- and the runs of a safe pair go along the graph with what is recognised at each address
abbrev pub SafeAsRecognised : Type 0
SafeAsRecognised =
    (p : Profile) (image : Contents) (graph : GraphParts) → IsSafe p image graph →
    AllRunAlong p image (place_at p (code_words image.code)) graph.lines

-- where steps lead from a state
abbrev pub reached : RunAfter → List TakenStep → RunAfter
reached now [] = now
reached now (t ∷ rest) = reached (record { harts = with_hart now.harts t.hart t.after.hart; shared = t.after.shared; turn = t.after.turn }) rest

-- a run is where the steps that it takes lead
abbrev pub RunIsReached : Type 0
RunIsReached =
    (p : Profile) (harts : Harts) (s : Shared) (steps : List HartStep) →
    run p harts s steps ≡ reached (record { harts = harts; shared = s; turn = Ran }) (steps_taken p harts s steps)

-- a run of the machine starts where runs may start
abbrev pub MachineMayStart : Type 0
MachineMayStart = (image : Contents) (input : List ℕ) (count : ℕ) → MayStart image count start_hart (start_shared image input)

-- the walk of each hart in each run of a safe pair is a list of steps of the graph walk
abbrev pub SafeWalksGraph : Type 0
SafeWalksGraph =
    (p : Profile) (image : Contents) (graph : GraphParts) (count : ℕ) (harts : Harts) (s : Shared) (steps : List HartStep) (k : ℕ) →
    IsSafe p image graph → MayRun p count → MayStart image count harts s → AreStepsOf count steps →
    IsGraphWalk p (code_words image.code) graph.lines (walk_of p (code_words image.code) k (steps_taken p harts s steps))

-- each begun instruction of each hart in each run of a safe pair is in its place
abbrev pub SafeStaysInPlace : Type 0
SafeStaysInPlace =
    (p : Profile) (image : Contents) (graph : GraphParts) (count : ℕ) (harts : Harts) (s : Shared) (steps : List HartStep) (k : ℕ) →
    IsSafe p image graph → MayRun p count → MayStart image count harts s → AreStepsOf count steps →
    AllByRecursion (IsInPlace p (code_words image.code)) (trail_of p (code_words image.code) k 0 (steps_taken p harts s steps))
