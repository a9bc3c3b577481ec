-- What a machine is made of, as a hart and what harts share.
use Rattle.std.specs.Prelude.{◌≡◌, ℕ, Bool, true, false, List, Some, None}
use Rattle.rv_image.specs.MemoryMap.{Profile, can_store}
use Rattle.rv_word.specs.Memory.{read}
use Rattle.rv_instr.specs.declared.instr.Instr.{Instr}
use Rattle.rv_instr.specs.declared.instr.Instr.TheVariants.{Store, Ecall}
use Rattle.rv_mem.specs.Cells.{Cells}
use Rattle.rv_code.specs.Arithmetic.{store_size}
use Rattle.rv_code.specs.Decode.{decoded}
use Rattle.rv_code.specs.State.{Hart, Shared, After, last_exit}
use Rattle.rv_code.specs.Step.{address, can_fetch}
use Rattle.rv_code.specs.declared.turn.Turn.{Turn}
use Rattle.rv_code.specs.declared.turn.Turn.TheVariants.{FetchFault, Illegal}
use Rattle.rv_sys.specs.Calls.{Calls, hart_of, shared_of}

pub record Parts : Type 0 where
  pub pc : ℕ
  pub regs : List ℕ
  pub memory : Cells
  pub calls : Calls

abbrev pub hart_in : Parts → Hart
hart_in parts = hart_of parts.pc parts.regs

abbrev pub shared_in : Parts → Shared
shared_in parts = shared_of parts.memory parts.calls

-- a machine after a step that ended so
abbrev pub after_step : Parts → Turn → After
after_step parts turn = record { hart = hart_in parts; shared = shared_in parts; turn = turn }

-- the hart, if it stood at an address, which takes the place of its pc
abbrev pub hart_at : Parts → ℕ → Hart
hart_at parts pc = hart_of pc parts.regs

-- such a machine after a step that ended so, with its hart at an address
abbrev pub after_at : Parts → ℕ → Turn → After
after_at parts pc turn = record { hart = hart_at parts pc; shared = shared_in parts; turn = turn }

-- an instruction stands at an address
pub record IsFetched (s : Shared) (pc : ℕ) (instr : Instr) : Type 0 where
  pub place : can_fetch pc ≡ true
  pub decodes : decoded (read 4 s.memory pc) ≡ Some instr

-- a step ended so where no instruction stood
abbrev pub IsNoFetch : Turn → Type 0
IsNoFetch (FetchFault pc) = Unit {0}
IsNoFetch (Illegal pc) = Unit {0}
IsNoFetch other = ⊥

-- the instructions that may take memory: a store into data or shadow, and a system call
abbrev pub may_take_memory : Profile → Instr → Hart → Bool
may_take_memory p (Store op rs1 rs2 imm) h = can_store p (address h rs1 imm) (store_size op)
may_take_memory p Ecall h = true
may_take_memory p instr h = false

-- a step may take memory: the run has not ended, and such an instruction stands at the pc
pub record MayTakeMemory (p : Profile) (h : Hart) (s : Shared) : Type 0 where
  pub going : last_exit s.events ≡ None
  pub place : can_fetch h.pc ≡ true
  pub instr : Instr
  pub decodes : decoded (read 4 s.memory h.pc) ≡ Some instr
  pub takes : may_take_memory p instr h ≡ true
