-- What a machine with one or several harts is made of: a processor, which has the hart that stepped last, and the
-- other harts, whose pcs and registers rest.
use Rattle.std.specs.Prelude.{ℕ, ◌<◌, ◌≤◌, length, List, Option, Some, None, slice_get}
use Rattle.rv_code.specs.Run.{RunAfter}
use Rattle.rv_code.specs.State.{Hart, Harts, Shared, start_hart, with_hart}
use Rattle.rv_code.specs.declared.turn.Turn.{Turn}
use Rattle.rv_sys.specs.Calls.{hart_of}
use Rattle.rv_machine.specs.Parts.{Parts, hart_in, shared_in}

-- a hart that rests
pub record HartParts : Type 0 where
  pub pc : ℕ
  pub regs : List ℕ

-- what rests at the place of the hart in the processor says nothing
pub record MachineParts : Type 0 where
  pub processor : Parts
  pub current : ℕ
  pub resting : List HartParts

-- the hart in the processor is one of those that there are; a number of eight bits tells each
pub record IsOneOfHarts (current : ℕ) (resting : List HartParts) : Type 0 where
  pub one : current < length resting
  pub most : length resting ≤ 255

abbrev pub rest_of : HartParts → Hart
rest_of parts = hart_of parts.pc parts.regs

abbrev pub rest_or : Option HartParts → Hart → Hart
rest_or None hart = hart
rest_or (Some parts) hart = rest_of parts

-- a hart that the machine has not is as before a run
abbrev pub resting_at : List HartParts → Harts
resting_at resting = λ k. rest_or (slice_get resting k) (start_hart k)

abbrev pub harts_in : MachineParts → Harts
harts_in m = with_hart (resting_at m.resting) m.current (hart_in m.processor)

abbrev pub harts_share : MachineParts → Shared
harts_share m = shared_in m.processor

-- the machine, if the hart in the processor stood at an address, which takes the place of its pc
abbrev pub at_pc : MachineParts → ℕ → MachineParts
at_pc m pc = record m { processor = record m.processor { pc = pc } }

-- a machine after a step that ended so
abbrev pub run_after : MachineParts → Turn → RunAfter
run_after m turn = record { harts = harts_in m; shared = harts_share m; turn = turn }
