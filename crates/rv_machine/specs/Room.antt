-- Room in a machine's memory: the pages that were made, into which a store takes no memory.
use Rattle.std.specs.Prelude.{◌≡◌, ℕ, Some, IsTrue}
use Rattle.rv_word.specs.Memory.{read}
use Rattle.rv_instr.specs.declared.instr.Instr.{Instr}
use Rattle.rv_instr.specs.declared.instr.Instr.TheVariants.{Store, Ecall}
use Rattle.rv_mem.specs.Cells.{Cells, HasRoom, has_room, memory_of}
use Rattle.rv_code.specs.Arithmetic.{store_size}
use Rattle.rv_code.specs.Decode.{decoded}
use Rattle.rv_code.specs.State.{Hart}
use Rattle.rv_code.specs.Step.{address}
use Rattle.rv_machine.specs.Parts.{Parts}

-- room stays at each address
abbrev pub KeepsRoom : Parts → Parts → Type 0
KeepsRoom old new = (k : ℕ) → IsTrue (has_room old.memory k) → IsTrue (has_room new.memory k)

-- memory stays of its version, and room stays
pub record KeepsVersionAndRoom (old new : Parts) : Type 0 where
  pub version : new.memory.version ≡ old.memory.version
  pub room : KeepsRoom old new

-- an instruction may want memory: a store whose bytes have no room, and a system call, which is recorded
abbrev pub LacksRoom : Cells → Hart → Instr → Type 0
LacksRoom cells h (Store op rs1 rs2 imm) = ¬ HasRoom cells (address h rs1 imm) (store_size op)
LacksRoom cells h Ecall = Unit {0}
LacksRoom cells h instr = ⊥

-- the same of the instruction at the pc
abbrev pub LacksRoomAtPc : Cells → Hart → Type 0
LacksRoomAtPc cells h = (instr : Instr) → decoded (read 4 (memory_of cells) h.pc) ≡ Some instr → LacksRoom cells h instr
