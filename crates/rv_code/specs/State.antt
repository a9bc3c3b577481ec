-- The machine's state: a hart (its pc and registers), and what harts share (memory, the input
-- left, the output, the system calls made).
use Rattle.std.specs.Prelude.{ℕ, ◌%◌, ◌^◌, ◌==◌, ◌||◌, List, [], ◌∷◌, Option, Some, None, if◌then◌else◌}
use Rattle.rv_image.specs.Image.{Contents, loaded}
use Rattle.rv_image.specs.MemoryMap.{START}
use Rattle.rv_word.specs.Memory.{Memory}
use Rattle.rv_instr.specs.Registers.{Registers, cleared, set_reg}
use Rattle.rv_code.specs.declared.event.Event.{Event}
use Rattle.rv_code.specs.declared.turn.Turn.{Turn}

pub record Hart : Type 0 where
  pub pc : ℕ
  pub regs : Registers

-- the harts of a machine, by their numbers
abbrev pub Harts : Type 0
Harts = ℕ → Hart

abbrev pub with_hart : Harts → ℕ → Hart → Harts
with_hart harts k h = λ j. if j == k then h else harts j

-- the events stand oldest first
pub record Shared : Type 0 where
  pub memory : Memory
  pub left : List ℕ
  pub output : List ℕ
  pub events : List Event

-- what a step leaves, and how it ended
pub record After : Type 0 where
  pub hart : Hart
  pub shared : Shared
  pub turn : Turn

-- where a run starts: each hart at the prologue's opening with its number in x10 and 0 in the other
-- registers, and the image in memory
abbrev pub start_hart : Harts
start_hart k = record { pc = START; regs = set_reg cleared 10 k }

abbrev pub start_shared : Contents → List ℕ → Shared
start_shared image input = record { memory = loaded image; left = input; output = []; events = [] }

-- the status with which an event ended the run, if it did
abbrev pub exit_of : Event → Option ℕ
exit_of e = if e.number == 93 || e.number == 94 then Some (e.a0 % 2 ^ 8) else None

-- the status with which the run has ended, if it has: its last event's
unfoldable pub last_exit : List Event → Option ℕ
last_exit [] = None
last_exit (e ∷ []) = exit_of e
last_exit (e ∷ f ∷ es) = last_exit (f ∷ es)
