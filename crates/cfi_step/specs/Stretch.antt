-- Steps that the selected hart takes while the meddler is not asked. Only private contracts cite this.
use Rattle.std.specs.Prelude.{◌≡◌, ◌≤◌, ◌<◌, ◌+◌, ℕ, zero, suc, ◌++◌, Bool, true, List, [], length, None, Some, slice_get}
use Rattle.std.specs.Vec.{with_item}
use Rattle.rv_image.specs.Image.{Contents}
use Rattle.rv_image.specs.MemoryMap.{Profile, profile_of}
use Rattle.rv_code.specs.Run.{stepped}
use Rattle.rv_code.specs.State.{last_exit}
use Rattle.rv_code.specs.declared.turn.Turn.{Turn}
use Rattle.rv_code.specs.declared.turn.Turn.TheVariants.{Ran}
use Rattle.rv_machine.specs.Harts.{MachineParts, at_pc, harts_in, harts_share, run_after}
use Rattle.rv_machine.specs.Parts.{IsNoFetch}
use Rattle.rv_code.specs.SameMachine.{IsSameMachine}
use Rattle.cfi_rules.specs.Split.{code_words, place_at}
use Rattle.cfi_rules.specs.Walks.{if_starts}
use Rattle.cfi_step.specs.Running.{is_stop, AreNoted, StaysFrom}
use Rattle.cfi_step.specs.Starts.{AreStartsOf, LiesInCode}
use Rattle.cfi_step.specs.Trail.{IsTrailOf, TrailParts}
use Rattle.cfi_step.specs.declared.running.Running.{Running}
use Rattle.cfi_step.specs.declared.stretch.Halt.{Halt}
use Rattle.cfi_step.specs.declared.stretch.Halt.TheVariants.{NoMemory, Stopped}

-- a run with another machine, and another trail of the hart that took the last step
abbrev pub with_own : Running → MachineParts → TrailParts → Running
with_own running m t = record running { machine = m; trails = with_item running.trails running.taken.hart t }

-- a run whose selected hart stands at an address
abbrev pub at : Running → ℕ → Running
at running pc = record running { machine = at_pc running.machine pc }

-- a step of the hart in the processor, with the trail of its walk, which ended so
pub record IsOwnStep (p : Profile) (words : List ℕ) (before after : MachineParts) (old new : TrailParts) (turn : Turn) : Type 0 where
  pub stepped : run_after after turn ≡ stepped (profile_of before.processor.memory.version) (harts_in before) (harts_share before) (record { hart = before.current; changes = [] })
  pub going : turn ≡ Ran → last_exit (harts_share after).events ≡ None
  pub walk : (walk : List ℕ) → IsTrailOf walk old → IsTrailOf (walk ++ if_starts (place_at p words before.processor.pc) before.processor.pc []) new
  pub count : new.count ≤ old.count + 1
  pub current : after.current ≡ before.current
  pub resting : after.resting ≡ before.resting
  pub version : after.processor.memory.version ≡ before.processor.memory.version

-- a step of a run, of the hart that took the last one, without a change before it, which ended so
pub record IsQuiet (p : Profile) (words : List ℕ) (before after : Running) (turn : Turn) : Type 0 where
  pub stepped : run_after after.machine turn
      ≡ stepped (profile_of before.machine.processor.memory.version) (harts_in before.machine) (harts_share before.machine) (record { hart = before.taken.hart; changes = [] })
  pub going : turn ≡ Ran → last_exit (harts_share after.machine).events ≡ None
  pub noted : AreNoted p words before.taken.hart (harts_in before.machine before.taken.hart).pc before.trails.items after.trails.items
  pub made : after.made ≡ before.made
  pub taken : after.taken ≡ before.taken
  pub each : length after.trails.items ≡ length before.trails.items
  pub quiet : after.quiet ≡ before.quiet
  pub current : after.machine.current ≡ before.machine.current
  pub resting : after.machine.resting ≡ before.machine.resting
  pub version : after.machine.processor.memory.version ≡ before.machine.processor.memory.version

-- a step of the hart in the processor does not end for want of an instruction
abbrev pub MayFetch : MachineParts → Type 0
MayFetch m = IsNoFetch (stepped (profile_of m.processor.memory.version) (harts_in m) (harts_share m) (record { hart = m.current; changes = [] })).turn → ⊥

-- each begun instruction of each hart is in its place from here on, in a code of so many words; the places stand as a
-- profile says that has the machine's steps
pub record IsStaying (count : ℕ) (m : MachineParts) : Type 0 where
  pub profile : Profile
  pub same : IsSameMachine (profile_of m.processor.memory.version) profile
  pub image : Contents
  pub newest : ℕ → ℕ
  pub stays : StaysFrom profile image (length m.resting) newest (harts_in m) (harts_share m)
  pub words : length (code_words image.code) ≡ count
  pub inside : LiesInCode profile (code_words image.code)

-- so many such steps, after each of which the run goes on
unfoldable pub AreQuiet : Profile → List ℕ → Running → ℕ → Running → Type 0
AreQuiet p words before zero after = after ≡ before
AreQuiet p words before (suc n) after = (mid : Running) × AreQuiet p words before n mid × IsQuiet p words mid after Ran

-- the steps from the one with a number on, until so many are taken
pub record GoesOn (p : Profile) (words : List ℕ) (from until : ℕ) (before after : Running) : Type 0 where
  pub n : ℕ
  pub taken : until ≡ from + suc n
  pub along : AreQuiet p words before (suc n) after

-- of these the last one stopped the run, and its hart is left at any address
pub record Stops (p : Profile) (words : List ℕ) (from until : ℕ) (before after : Running) (turn : Turn) (steps : ℕ) : Type 0 where
  pub n : ℕ
  pub pc : ℕ
  pub mid : Running
  pub stop : is_stop turn ≡ true
  pub taken : steps ≡ from + suc n
  pub most : steps ≤ until
  pub along : AreQuiet p words before n mid
  pub last : IsQuiet p words mid (at after pc) turn

-- where it is a stop of the run, this is so of it; of want of memory nothing is said
abbrev pub OnStop : (Turn → ℕ → Type 0) → Halt → Type 0
OnStop P (Stopped turn steps) = P turn steps
OnStop P NoMemory = Unit {0}

-- such steps of a machine with the trail of its hart, in whichever run and whatever the places that the starts are of
abbrev pub Goes : List Bool → ℕ → ℕ → MachineParts → TrailParts → MachineParts → TrailParts → Type 0
Goes starts from until before old after new =
    (p : Profile) (words : List ℕ) → AreStartsOf p words starts → (running : Running) → before.current ≡ running.taken.hart → running.taken.hart < length running.trails.items
    → GoesOn p words from until (with_own running before old) (with_own running after new)

abbrev pub Halts : List Bool → ℕ → ℕ → MachineParts → TrailParts → MachineParts → TrailParts → Turn → ℕ → Type 0
Halts starts from until before old after new turn steps =
    (p : Profile) (words : List ℕ) → AreStartsOf p words starts → (running : Running) → before.current ≡ running.taken.hart → running.taken.hart < length running.trails.items
    → Stops p words from until (with_own running before old) (with_own running after new) turn steps

-- and of a run, where the trail is that in its list
abbrev pub RunGoes : List Bool → ℕ → ℕ → Running → Running → Type 0
RunGoes starts from until before after =
    (p : Profile) (words : List ℕ) → AreStartsOf p words starts → (t : TrailParts) → slice_get before.trails.items before.taken.hart ≡ Some t
    → GoesOn p words from until (with_own before before.machine t) after

abbrev pub RunHalts : List Bool → ℕ → ℕ → Running → Running → Turn → ℕ → Type 0
RunHalts starts from until before after turn steps =
    (p : Profile) (words : List ℕ) → AreStartsOf p words starts → (t : TrailParts) → slice_get before.trails.items before.taken.hart ≡ Some t
    → Stops p words from until (with_own before before.machine t) after turn steps
