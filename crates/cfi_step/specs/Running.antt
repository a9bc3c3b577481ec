-- What a run that is under way comes to, from the state at which it began. Only private contracts cite this.
use Rattle.std.specs.Prelude.{◌≡◌, ◌≤◌, ◌<◌, ◌+◌, ◌==◌, ℕ, Bool, true, false, List, [], ◌∷◌, ◌++◌, length, map, slice_get, Some, None}
use Rattle.std.specs.List.{All, AllByRecursion}
use Rattle.rv_image.specs.Image.{Contents}
use Rattle.rv_image.specs.MemoryMap.{Profile, profile_of}
use Rattle.rv_code.specs.SameMachine.{IsSameMachine}
use Rattle.rv_code.specs.Run.{HartStep, IsDataChange, disturbed, run}
use Rattle.rv_code.specs.State.{Harts, Shared, last_exit}
use Rattle.rv_code.specs.declared.turn.Turn.{Turn}
use Rattle.rv_code.specs.declared.turn.Turn.TheVariants.{Ran, Exit, Break, LoadFault, StoreFault, FetchFault, Illegal}
use Rattle.rv_machine.specs.Harts.{MachineParts, harts_in, harts_share}
use Rattle.cfi_rules.specs.Along.{AreStepsOf}
use Rattle.cfi_rules.specs.Split.{code_words, place_at}
use Rattle.cfi_rules.specs.Taken.{steps_taken}
use Rattle.cfi_rules.specs.Trails.{IsInPlace, trail_of}
use Rattle.cfi_rules.specs.Walks.{if_own, if_starts, walk_of}
use Rattle.cfi_script.specs.Plan.{IsQuietPlan, Plan, Planned, changes_of, harts_of, numbered, steps_of}
use Rattle.cfi_step.specs.Report.{end_of}
use Rattle.cfi_step.specs.Taken.{AreTurnsOf}
use Rattle.cfi_step.specs.Trail.{IsTrailOf, TrailParts}
use Rattle.cfi_step.specs.declared.report.RunEnd.{RunEnd}
use Rattle.cfi_step.specs.declared.running.Running.{Running}

-- every end of a step but one after which the next may come
abbrev pub is_stop : Turn → Bool
is_stop Ran = false
is_stop (Exit status) = true
is_stop (Break pc) = true
is_stop (LoadFault pc address) = true
is_stop (StoreFault pc address) = true
is_stop (FetchFault pc) = true
is_stop (Illegal pc) = true

-- a run from this state stays in its place, whichever harts step and whatever changes data: each begun instruction of
-- each hart is in its place, from the newest address of its walk
abbrev pub StaysFrom : Profile → Contents → ℕ → (ℕ → ℕ) → Harts → Shared → Type 0
StaysFrom p image count newest harts s =
    (steps : List HartStep) → AreStepsOf count steps → (k : ℕ)
    → AllByRecursion (IsInPlace p (code_words image.code)) (trail_of p (code_words image.code) k (newest k) (steps_taken p harts s steps))

-- what a plan has for the next step of a machine
abbrev pub hart_in_plan : Plan → ℕ → MachineParts → ℕ
hart_in_plan plan step m = plan.hart step (length m.resting) (harts_in m) (harts_share m)

abbrev pub changes_in_plan : Plan → ℕ → MachineParts → List (ℕ × ℕ)
changes_in_plan plan step m = plan.changes step (length m.resting) (harts_in m) (harts_share m)

abbrev pub step_in_plan : Plan → ℕ → MachineParts → Planned
step_in_plan plan step m = (hart_in_plan plan step m, changes_in_plan plan step m)

-- a hart takes each step after `from` steps or more, but fewer than `next`, and no change comes before it, whatever the
-- states
abbrev pub IsStill : ℕ → ℕ → Plan → ℕ → ℕ → Type 0
IsStill from next plan count hart =
    (step : ℕ) → from ≤ step → step < next → (harts : Harts) (shared : Shared)
    → (plan.hart step count harts shared ≡ hart) × (plan.changes step count harts shared ≡ [])

-- after so many steps: the hart that took the last one is selected, each hart has a trail, of a walk of no more addresses
-- than steps were taken, and what is known of the plan
pub record IsReady (plan : Plan) (steps : ℕ) (running : Running) : Type 0 where
  pub last : running.taken.hart < length running.machine.resting
  pub since : running.taken.since ≤ steps
  pub current : running.machine.current ≡ running.taken.hart
  pub each : length running.trails.items ≡ length running.machine.resting
  pub walked : (k : ℕ) (t : TrailParts) → slice_get running.trails.items k ≡ Some t → t.count ≤ steps
  pub quiet : IsQuietPlan steps running.quiet plan

-- the hart of the next step is chosen and selected, and the changes before it are made
pub record IsPrepared (plan : Plan) (step : ℕ) (before after : Running) : Type 0 where
  pub hart : after.taken.hart ≡ hart_in_plan plan step before.machine
  pub below : after.taken.hart < length before.machine.resting
  pub current : after.machine.current ≡ after.taken.hart
  pub since : after.taken.since ≤ step
  pub taken : (harts : List ℕ) → length harts ≡ step → AreTurnsOf harts before.taken → AreTurnsOf (harts ++ after.taken.hart ∷ []) after.taken
  pub allowed : AllByRecursion IsDataChange (changes_of (changes_in_plan plan step before.machine))
  pub harts : harts_in after.machine ≡ harts_in before.machine
  pub shared : harts_share after.machine ≡ disturbed (harts_share before.machine) (changes_of (changes_in_plan plan step before.machine))
  pub made : after.made ≡ before.made ++ map (λ c. (step, c)) (changes_in_plan plan step before.machine)
  pub count : length after.machine.resting ≡ length before.machine.resting
  pub version : after.machine.processor.memory.version ≡ before.machine.processor.memory.version
  pub trails : after.trails.items ≡ before.trails.items
  pub quiet : IsQuietPlan (step + 1) after.quiet plan

-- the walk of the hart that steps goes on to its pc, where something starts there, and the other harts' walks stay
pub record IsNoted (p : Profile) (words : List ℕ) (hart pc k : ℕ) (before after : TrailParts) : Type 0 where
  pub walk : (walk : List ℕ) → IsTrailOf walk before → IsTrailOf (walk ++ if_starts (if_own (hart == k) (place_at p words pc)) pc []) after
  pub count : after.count ≤ before.count + 1

abbrev pub AreNoted : Profile → List ℕ → ℕ → ℕ → List TrailParts → List TrailParts → Type 0
AreNoted p words hart pc before after =
    (k : ℕ) (t : TrailParts) → slice_get after k ≡ Some t → (old : TrailParts) × (slice_get before k ≡ Some old) × IsNoted p words hart pc k old t

-- a run that is to begin, in an image whose places stand as a profile says
pub record IsBegun (p : Profile) (image : Contents) (running : Running) : Type 0 where
  pub profile : IsSameMachine (profile_of running.machine.processor.memory.version) p
  pub made : running.made ≡ []
  pub taken : AreTurnsOf [] running.taken
  pub last : running.taken.hart ≡ 0
  pub since : running.taken.since ≡ 0
  pub current : running.machine.current ≡ 0
  pub some : 1 ≤ length running.machine.resting
  pub each : length running.trails.items ≡ length running.machine.resting
  pub empty : All (IsTrailOf []) running.trails.items
  pub quiet : running.quiet ≡ 0
  pub stays : (newest : ℕ → ℕ) × StaysFrom p image (length running.machine.resting) newest (harts_in running.machine) (harts_share running.machine)
  pub going : last_exit (harts_share running.machine).events ≡ None

-- the run of so many harts from a state in these steps is over
pub record IsOver (p : Profile) (image : Contents) (count : ℕ) (harts : Harts) (s : Shared) (steps : List Planned) (end : RunEnd) (k : ℕ) (after : Running) : Type 0 where
  pub ending : end_of (run p harts s (steps_of steps)).turn ≡ Some end
  pub number : k ≡ length steps
  pub output : after.machine.processor.calls.output ≡ (run p harts s (steps_of steps)).shared.output
  pub events : after.machine.processor.calls.events ≡ (run p harts s (steps_of steps)).shared.events
  pub made : after.made ≡ numbered 0 steps
  pub taken : AreTurnsOf (harts_of steps) after.taken
  pub since : after.taken.since ≤ k
  pub each : length after.trails.items ≡ count
  pub last : after.taken.hart < count
  pub walks : (j : ℕ) (t : TrailParts) → slice_get after.trails.items j ≡ Some t → IsTrailOf (walk_of p (code_words image.code) j (steps_taken p harts s (steps_of steps))) t
  pub allowed : AreStepsOf count (steps_of steps)
