-- What the system calls of a run keep, and how a call's end is a step's.
use Rattle.std.specs.Prelude.{ℕ, ◌+◌, List}
use Rattle.rv_instr.specs.Registers.{regs_of}
use Rattle.rv_mem.specs.Cells.{Cells, memory_of}
use Rattle.rv_code.specs.State.{Hart, Shared, After}
use Rattle.rv_code.specs.declared.event.Event.{Event}
use Rattle.rv_code.specs.declared.turn.Turn.TheVariants as turn
use Rattle.rv_sys.specs.declared.ending.SysEnd.{SysEnd}
use Rattle.rv_sys.specs.declared.ending.SysEnd.TheVariants.{Goes, Exit}

-- the input left, the output, the events
pub record Calls : Type 0 where
  pub left : List ℕ
  pub output : List ℕ
  pub events : List Event

-- the hart with this pc and these registers
abbrev pub hart_of : ℕ → List ℕ → Hart
hart_of pc regs = record { pc = pc; regs = regs_of regs }

-- what harts share: memory, and what the system calls keep
abbrev pub shared_of : Cells → Calls → Shared
shared_of cells calls = record { memory = memory_of cells; left = calls.left; output = calls.output; events = calls.events }

-- the end of a call at a pc: the next instruction is next, or the run has ended
abbrev pub after_call : SysEnd → ℕ → List ℕ → Cells → Calls → After
after_call Goes pc regs cells calls = record { hart = hart_of (pc + 4) regs; shared = shared_of cells calls; turn = turn.Ran }
after_call (Exit status) pc regs cells calls = record { hart = hart_of pc regs; shared = shared_of cells calls; turn = turn.Exit status }
