-- What a step from a word of a unit adds to the events: none, or one with the number in x17, where what
-- stands there may call.
use Rattle.std.specs.Prelude.{◌≡◌, ℕ, ◌+◌, true, List, [], ◌∷◌, ◌++◌}
use Rattle.rv_image.specs.MemoryMap.{Profile}
use Rattle.rv_word.specs.Memory.{Memory}
use Rattle.rv_word.specs.Numbers.{is_listed}
use Rattle.rv_instr.specs.Registers.{Registers}
use Rattle.rv_code.specs.State.{Hart, Shared}
use Rattle.rv_code.specs.Step.{step}
use Rattle.rv_code.specs.declared.event.Event.{Event}
use Rattle.cfi_unit.specs.declared.unit.Unit as U
use Rattle.cfi_unit.specs.declared.unit.SystemOp.TheVariants as S
use Rattle.cfi_unit.specs.Flow as F
use Rattle.cfi_unit.specs.Flow.{Act, Test, flow_of}
use Rattle.cfi_unit.specs.Place.{Place, handler, opening, closing, body, place_instrs}
use Rattle.cfi_unit.specs.Stand.{Stand}
use Rattle.cfi_unit.specs.Context.{Context}
use Rattle.cfi_unit.specs.InPlace.{InPlace}
use Rattle.cfi_unit.specs.UnitLaw.{MayStand}

-- x17 is one of the numbers that are tested
abbrev pub Lists : Test → Hart → Type 0
Lists (F.listed numbers) h = is_listed (h.regs 17) numbers ≡ true
Lists other h = ⊥

-- a unit may call where it has a bare call, or its list has the number in x17
abbrev pub ActMayCall : Act → Test → Hart → Type 0
ActMayCall (F.system S.Ecall) test h = Unit {0}
ActMayCall F.calls test h = Lists test h
ActMayCall other test h = ⊥

abbrev pub UnitMayCall : U.Unit → Hart → Type 0
UnitMayCall unit h = ActMayCall (flow_of unit).act (flow_of unit).test h

-- the closing calls with its own number alone
abbrev pub MayCall : Place → ℕ → Hart → Type 0
MayCall handler at h = ⊥
MayCall (opening entry) at h = ⊥
MayCall closing at h = (h.pc ≡ at + 4) × (h.regs 17 ≡ 93)
MayCall (body unit) at h = UnitMayCall unit h

pub data Adds (place : Place) (at : ℕ) (h : Hart) (events after : List Event) : Type 0 where
  adds_none : after ≡ events → Adds place at h events after
  adds_one : (e : Event) → after ≡ events ++ e ∷ [] → e.number ≡ h.regs 17 → MayCall place at h → Adds place at h events after

abbrev pub EventLaw : Type 0
EventLaw =
    (p : Profile) (part : ℕ) (image base : Memory) (place : Place) (at : ℕ) (pending : List ℕ) (r : Registers) (h : Hart) (s : Shared) →
    MayStand p place at pending → Stand image at (place_instrs p place at) → Context part image base pending s →
    InPlace p part image place at pending r h s.memory → Adds place at h s.events (step p h s).shared.events
