-- The instruction that a word is (RISC-V unprivileged ISA, "RV32/64G Instruction Set Listings", the
-- rows of RV32I, RV64I, RV32M and RV64M). Every other word, the word of zeros among them, is no
-- instruction.
use Rattle.std.specs.Prelude.{ℕ, ◌/◌, ◌==◌, if◌then◌else◌, Option, Some, None, option_map}
use Rattle.std.specs.Option.{option_or}
use Rattle.rv_instr.specs.declared.instr.Instr.{Instr}
use Rattle.rv_instr.specs.declared.instr.Instr.TheVariants.{Upper, Jal, Jalr, Branch, Load, Store, Immediate, Shift, ShiftWord, Register, Fence, Ecall, Ebreak}
use Rattle.rv_instr.specs.declared.instr.UpperOp.TheVariants.{Lui, Auipc}
use Rattle.rv_instr.specs.declared.instr.ImmediateOp.TheVariants.{Addiw}
use Rattle.rv_code.specs.Fields.{Fields, fields_of, imm_i, imm_s, imm_b, imm_u, imm_j, shift_amount, with_funct3}
use Rattle.rv_code.specs.Tables.{row, branches, loads, stores, immediates, shifts, word_shifts, registers, word_registers}

-- opcode 67h
abbrev pub jump_of : Fields → Option Instr
jump_of f = if f.funct3 == 0 then Some (Jalr f.rd f.rs1 (imm_i f)) else None

-- opcode 13h: computations with an immediate, and shifts by a constant
abbrev pub immediate_of : Fields → Option Instr
immediate_of f =
    option_or (option_map (λ op. Immediate op f.rd f.rs1 (imm_i f)) (row immediates f.funct3))
    (option_map (λ op. Shift op f.rd f.rs1 (shift_amount f)) (row shifts (with_funct3 (f.funct7 / 2) f.funct3)))

-- opcode 1Bh: the same on the low 32 bits
abbrev pub word_immediate_of : Fields → Option Instr
word_immediate_of f =
    if f.funct3 == 0 then Some (Immediate Addiw f.rd f.rs1 (imm_i f)) else
    option_map (λ op. ShiftWord op f.rd f.rs1 f.rs2) (row word_shifts (with_funct3 f.funct7 f.funct3))

-- opcode 0Fh: FENCE, whatever its other fields
abbrev pub fence_of : Fields → ℕ → Option Instr
fence_of f word = if f.funct3 == 0 then Some (Fence word) else None

-- opcode 73h: two words are instructions
abbrev pub system_of : ℕ → Option Instr
system_of word =
    if word == 0x00000073 then Some Ecall else
    if word == 0x00100073 then Some Ebreak else None

abbrev pub decoded_by : Fields → ℕ → Option Instr
decoded_by f word =
    if f.opcode == 0x37 then Some (Upper Lui f.rd (imm_u f)) else
    if f.opcode == 0x17 then Some (Upper Auipc f.rd (imm_u f)) else
    if f.opcode == 0x6f then Some (Jal f.rd (imm_j f)) else
    if f.opcode == 0x67 then jump_of f else
    if f.opcode == 0x63 then option_map (λ op. Branch op f.rs1 f.rs2 (imm_b f)) (row branches f.funct3) else
    if f.opcode == 0x03 then option_map (λ op. Load op f.rd f.rs1 (imm_i f)) (row loads f.funct3) else
    if f.opcode == 0x23 then option_map (λ op. Store op f.rs1 f.rs2 (imm_s f)) (row stores f.funct3) else
    if f.opcode == 0x13 then immediate_of f else
    if f.opcode == 0x1b then word_immediate_of f else
    if f.opcode == 0x33 then option_map (λ op. Register op f.rd f.rs1 f.rs2) (row registers (with_funct3 f.funct7 f.funct3)) else
    if f.opcode == 0x3b then option_map (λ op. Register op f.rd f.rs1 f.rs2) (row word_registers (with_funct3 f.funct7 f.funct3)) else
    if f.opcode == 0x0f then fence_of f word else
    if f.opcode == 0x73 then system_of word else None

-- the instruction of a word of 32 bits, if it is one
unfoldable pub decoded : ℕ → Option Instr
decoded word = decoded_by (fields_of word) word
