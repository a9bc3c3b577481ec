-- One step of the hart (RISC-V unprivileged ISA, RV32I and RV64I base instruction sets and the M
-- extension): fetch, decode, execute. A stop changes nothing but what an exit's event adds. A jump to an address that is no
-- multiple of 4 is done, and the fetch after it stops (in the standard the jump itself traps).
use Rattle.std.specs.Prelude.{ℕ, ◌+◌, ◌*◌, ◌/◌, ◌%◌, ◌^◌, ◌==◌, ◌&&◌, Bool, Option, Some, None, if◌then◌else◌}
use Rattle.rv_word.specs.Bits.{sign_extended, wrap}
use Rattle.rv_image.specs.MemoryMap.{Profile, CODE_START, CODE_SIZE, lies_within, can_load, can_store}
use Rattle.rv_word.specs.Memory.{read, write}
use Rattle.rv_instr.specs.Registers.{Registers, get_reg, set_reg}
use Rattle.rv_instr.specs.declared.instr.Instr.{Instr}
use Rattle.rv_instr.specs.declared.instr.Instr.TheVariants.{Upper, Jal, Jalr, Branch, Load, Store, Immediate, Shift, ShiftWord, Register, Fence, Ecall, Ebreak}
use Rattle.rv_instr.specs.declared.instr.UpperOp.TheVariants.{Lui, Auipc}
use Rattle.rv_instr.specs.declared.instr.LoadOp.{LoadOp}
use Rattle.rv_instr.specs.declared.instr.StoreOp.{StoreOp}
use Rattle.rv_code.specs.Arithmetic.{immediate_result, shift_result, shift_word_result, register_result, branch_taken, load_size, load_result, store_size}
use Rattle.rv_code.specs.Decode.{decoded}
use Rattle.rv_code.specs.State.{Hart, Shared, After, last_exit}
use Rattle.rv_code.specs.SystemCall.{system_call}
use Rattle.rv_code.specs.declared.turn.Turn.{Turn}
use Rattle.rv_code.specs.declared.turn.Turn.TheVariants.{Ran, Exit, Break, LoadFault, StoreFault, FetchFault, Illegal}

-- the instruction ran: the next pc, the registers, what is shared
abbrev pub ran : ℕ → Registers → Shared → After
ran pc regs s = record { hart = record { pc = pc; regs = regs }; shared = s; turn = Ran }

-- it put `v` into `rd`, and the next instruction follows
abbrev pub puts : Hart → Shared → ℕ → ℕ → After
puts h s rd v = ran (h.pc + 4) (set_reg h.regs rd v) s

-- it stops, and changes nothing
abbrev pub stops : Hart → Shared → Turn → After
stops h s turn = record { hart = h; shared = s; turn = turn }

abbrev pub if_after : Bool → After → After → After
if_after b x y = if b then x else y

-- a signed field of `bits` bits
abbrev pub offset : ℕ → ℕ → ℕ
offset bits imm = sign_extended imm bits

-- the address in rs1 and the offset
abbrev pub address : Hart → ℕ → ℕ → ℕ
address h rs1 imm = wrap (get_reg h.regs rs1 + offset 12 imm)

abbrev pub load_at : Profile → LoadOp → ℕ → Hart → Shared → ℕ → After
load_at p op rd h s a =
    if_after (can_load p a (load_size op))
    (puts h s rd (load_result op (read (load_size op) s.memory a)))
    (stops h s (LoadFault h.pc a))

abbrev pub store_at : Profile → StoreOp → ℕ → Hart → Shared → ℕ → After
store_at p op v h s a =
    if_after (can_store p a (store_size op))
    (ran (h.pc + 4) h.regs (record s { memory = write (store_size op) s.memory a v }))
    (stops h s (StoreFault h.pc a))

abbrev pub exec : Profile → Instr → Hart → Shared → After
exec p (Upper Lui rd imm) h s = puts h s rd (offset 32 (imm * 2 ^ 12))
exec p (Upper Auipc rd imm) h s = puts h s rd (wrap (h.pc + offset 32 (imm * 2 ^ 12)))
exec p (Jal rd imm) h s = ran (wrap (h.pc + offset 21 (imm * 2))) (set_reg h.regs rd (h.pc + 4)) s
exec p (Jalr rd rs1 imm) h s = ran (address h rs1 imm / 2 * 2) (set_reg h.regs rd (h.pc + 4)) s
exec p (Branch op rs1 rs2 imm) h s =
    if_after (branch_taken op (get_reg h.regs rs1) (get_reg h.regs rs2))
    (ran (wrap (h.pc + offset 13 (imm * 2))) h.regs s)
    (ran (h.pc + 4) h.regs s)
exec p (Load op rd rs1 imm) h s = load_at p op rd h s (address h rs1 imm)
exec p (Store op rs1 rs2 imm) h s = store_at p op (get_reg h.regs rs2) h s (address h rs1 imm)
exec p (Immediate op rd rs1 imm) h s = puts h s rd (immediate_result op (get_reg h.regs rs1) (offset 12 imm))
exec p (Shift op rd rs1 amount) h s = puts h s rd (shift_result op (get_reg h.regs rs1) amount)
exec p (ShiftWord op rd rs1 amount) h s = puts h s rd (shift_word_result op (get_reg h.regs rs1) amount)
exec p (Register op rd rs1 rs2) h s = puts h s rd (register_result op (get_reg h.regs rs1) (get_reg h.regs rs2))
exec p (Fence word) h s = ran (h.pc + 4) h.regs s
exec p Ecall h s = system_call h s
exec p Ebreak h s = stops h s (Break h.pc)

-- the instruction at a pc: a pc that is no multiple of 4 in code has none
abbrev pub can_fetch : ℕ → Bool
can_fetch pc = (pc % 4 == 0) && lies_within CODE_START CODE_SIZE pc 4

abbrev pub exec_decoded : Profile → Option Instr → Hart → Shared → After
exec_decoded p None h s = stops h s (Illegal h.pc)
exec_decoded p (Some i) h s = exec p i h s

abbrev pub step_unless_ended : Profile → Option ℕ → Hart → Shared → After
step_unless_ended p (Some status) h s = stops h s (Exit status)
step_unless_ended p None h s =
    if_after (can_fetch h.pc) (exec_decoded p (decoded (read 4 s.memory h.pc)) h s) (stops h s (FetchFault h.pc))

-- after an exit every step answers it again
unfoldable pub step : Profile → Hart → Shared → After
step p h s = step_unless_ended p (last_exit s.events) h s
