-- The machine's state matches the program's own: the pc, the program's registers, data, the input left,
-- the output and the system calls are the same, and its pending sites are those of the shadow stack. Where functions save the sites of
-- their own calls x4 holds the mask of stores.
use Rattle.std.specs.Prelude.{◌≡◌, ℕ, ◌<◌, Bool, length}
use Rattle.rv_image.specs.MemoryMap.{DATA_END}
use Rattle.rv_word.specs.Memory.{Memory}
use Rattle.rv_code.specs.State.{Hart, Shared, After}
use Rattle.rv_code.specs.declared.turn.Turn.TheVariants.{Ran}
use Rattle.cfi_unit.specs.Context.{Context}
use Rattle.cfi_unit.specs.Leaving.{SameRegisters}
use Rattle.cfi_unit.specs.Shadow.{slot}
use Rattle.cfi_runs.specs.Mask.{HoldsMask}
use Rattle.cfi_runs.specs.Own.{Own, OwnAfter}

-- `t` is the program's own, `s` the machine's
pub record SameData (t s : Shared) : Type 0 where
  pub memory : (a : ℕ) → a < DATA_END → s.memory a ≡ t.memory a
  pub left : s.left ≡ t.left
  pub output : s.output ≡ t.output
  pub events : s.events ≡ t.events

pub record Matches (masked : Bool) (part : ℕ) (image base : Memory) (o : Own) (h : Hart) (s : Shared) : Type 0 where
  pub pc : h.pc ≡ o.pc
  pub regs : SameRegisters o.regs h.regs
  pub shared : SameData o.shared s
  pub pointer : h.regs 3 ≡ slot part (length o.pending)
  pub mask : HoldsMask masked h.regs
  pub context : Context part image base o.pending s

-- a step of the program's own, and what the machine has come to, end alike; they match where both go on
pub record MatchesAfter (masked : Bool) (part : ℕ) (image base : Memory) (own : OwnAfter) (after : After) : Type 0 where
  pub turn : after.turn ≡ own.turn
  pub shared : SameData own.state.shared after.shared
  pub going : own.turn ≡ Ran → Matches masked part image base own.state after.hart after.shared
