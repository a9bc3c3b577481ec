-- The unit law: a step from a word of a unit stays in the unit, or leaves it where the unit leads, or
-- ends as the unit may end; and it keeps what every word keeps. It speaks of one step alone, from
-- any memory in which code, the hart's own part of the shadow and the facts of the word stand: so
-- data, and the other harts' parts, may change between two steps.
use Rattle.std.specs.Prelude.{◌≡◌, ℕ, ◌%◌, ◌^◌, ◌<◌, ◌≤◌, ◌⊎◌, List, [], ◌∷◌, length}
use Rattle.rv_image.specs.MemoryMap.{IsFullProfile, Profile}
use Rattle.rv_word.specs.Memory.{Memory}
use Rattle.rv_instr.specs.Registers.{Registers}
use Rattle.rv_code.specs.State.{Hart, Shared, After}
use Rattle.rv_code.specs.Step.{step}
use Rattle.rv_code.specs.declared.turn.Turn.{Turn}
use Rattle.rv_code.specs.declared.turn.Turn.TheVariants.{Ran, Exit, Break, LoadFault}
use Rattle.cfi_unit.specs.declared.unit.Unit as U
use Rattle.cfi_unit.specs.declared.unit.Unit.TheVariants as V
use Rattle.cfi_unit.specs.declared.unit.SystemOp.TheVariants as S
use Rattle.cfi_unit.specs.Flow as F
use Rattle.cfi_unit.specs.Flow.{Act, flow_of}
use Rattle.cfi_unit.specs.UnitWords.{Fits}
use Rattle.cfi_unit.specs.Prologue.{OPENING, call_at}
use Rattle.cfi_unit.specs.Place.{Place, handler, opening, closing, body, place_instrs}
use Rattle.cfi_unit.specs.Shadow.{IsPart, slot, MOST_PENDING}
use Rattle.cfi_unit.specs.Stand.{Stand}
use Rattle.cfi_unit.specs.Context.{Kept, Context}
use Rattle.cfi_unit.specs.Leads.{Leads, by_label}
use Rattle.cfi_unit.specs.InPlace.{InPlace}
use Rattle.cfi_unit.specs.Templates.{LeftWith}

abbrev pub Exits : Turn → Type 0
Exits turn = (status : ℕ) × (turn ≡ Exit status)

abbrev pub FailsToLoad : ℕ → Turn → Type 0
FailsToLoad at turn = (a : ℕ) × (turn ≡ LoadFault at a)

abbrev pub ActEnds : Act → ℕ → Turn → Type 0
ActEnds (F.does instr) at turn = FailsToLoad at turn
ActEnds (F.system S.Ecall) at turn = Exits turn
ActEnds (F.system S.Ebreak) at turn = turn ≡ Break at
ActEnds F.calls at turn = Exits turn
ActEnds other at turn = ⊥

abbrev pub UnitEnds : U.Unit → ℕ → Turn → Type 0
UnitEnds unit at turn = ActEnds (flow_of unit).act at turn

-- how what stands at an address may end a run
abbrev pub Ends : Place → ℕ → Turn → Type 0
Ends handler at turn = turn ≡ Break at
Ends (opening entry) at turn = ⊥
Ends closing at turn = Exits turn
Ends (body unit) at turn = UnitEnds unit at turn

-- a step from a word of what stands at `at`: wherever the step leaves to, but at a handler, x3 is past the newest site, and x1 and x4
-- are as that leaves them
pub data Outcome (p : Profile) (part : ℕ) (image base : Memory) (place : Place) (at : ℕ) (pending : List ℕ) (r : Registers) (after : After) : Type 0 where
  stays : after.turn ≡ Ran → Context part image base pending after.shared → at < after.hart.pc →
      InPlace p part image place at pending r after.hart after.shared.memory →
      Outcome p part image base place at pending r after
  leaves : (newer : List ℕ) → after.turn ≡ Ran → Context part image base newer after.shared →
      ((after.hart.regs 3 ≡ slot part (length newer)) × LeftWith place at after.hart.regs) ⊎ (after.hart.pc < OPENING) →
      Leads p (by_label image) place at pending r newer after.hart.pc → Outcome p part image base place at pending r after
  ends : Ends place at after.turn → Kept part image base pending after.shared.memory →
      Outcome p part image base place at pending r after

-- what a place asks: jumps reach their targets, a return goes to an instruction's address, and the opening is one that saves its own
-- call's site
abbrev pub ReturnsTo : List ℕ → Type 0
ReturnsTo [] = Unit {0}
ReturnsTo (site ∷ pending) = (site % 2 ≡ 0) × (site < 2 ^ 64)

abbrev pub UnitMayStand : U.Unit → ℕ → List ℕ → Type 0
UnitMayStand unit at pending = Fits unit at × ReturnsTo pending

abbrev pub MayStand : Profile → Place → ℕ → List ℕ → Type 0
MayStand p handler at pending = Unit {0}
MayStand p (opening entry) at pending = IsFullProfile p × (at ≡ OPENING) × (pending ≡ []) × Fits (V.Call entry) (call_at p)
MayStand p closing at pending = Unit {0}
MayStand p (body unit) at pending = UnitMayStand unit at pending

abbrev pub UnitLaw : Type 0
UnitLaw =
    (p : Profile) (part : ℕ) (image base : Memory) (place : Place) (at : ℕ) (pending : List ℕ) (r : Registers) (h : Hart) (s : Shared) →
    IsPart p part → ((k : ℕ) → image k < 2 ^ 8) → MayStand p place at pending → length pending ≤ MOST_PENDING →
    Stand image at (place_instrs p place at) → Context part image base pending s →
    InPlace p part image place at pending r h s.memory → Outcome p part image base place at pending r (step p h s)
