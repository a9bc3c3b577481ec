-- Words of private contracts: a call that is recorded and answered.
use Rattle.std.specs.Prelude.{◌≡◌, ℕ, List, [], ◌∷◌, ◌++◌}
use Rattle.rv_instr.specs.Registers.{regs_of, set_reg}
use Rattle.rv_code.specs.SystemCall.{event_of}
use Rattle.rv_sys.specs.Calls.{Calls, hart_of}

-- what a call keeps that is recorded, with the bytes that it wrote and its answer
abbrev pub recorded : List ℕ → Calls → List ℕ → ℕ → Calls
recorded regs calls bytes answer = record calls { events = calls.events ++ event_of (hart_of 0 regs) bytes answer ∷ [] }

-- a call was recorded, and x10 is its answer
pub record IsAnswered (regs : List ℕ) (calls : Calls) (bytes : List ℕ) (answer : ℕ) (regs_after : List ℕ) (calls_after : Calls) : Type 0 where
  pub register : regs_of regs_after ≡ set_reg (regs_of regs) 10 answer
  pub events : calls_after ≡ recorded regs calls bytes answer
