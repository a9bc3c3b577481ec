-- The word of an instruction (RISC-V unprivileged ISA, "RV32/64G Instruction Set Listings"): the
-- number that an operation fixes in its word, and the other fields at their places.
use Rattle.std.specs.Prelude.{ℕ, ◌+◌, ◌*◌, ◌/◌, ◌%◌, ◌^◌}
use Rattle.rv_instr.specs.declared.instr.Instr.{Instr}
use Rattle.rv_instr.specs.declared.instr.Instr.TheVariants.{Upper, Jal, Jalr, Branch, Load, Store, Immediate, Shift, ShiftWord, Register, Fence, Ecall, Ebreak}
use Rattle.rv_instr.specs.declared.instr.UpperOp.{UpperOp}
use Rattle.rv_instr.specs.declared.instr.UpperOp.TheVariants.{Lui, Auipc}
use Rattle.rv_instr.specs.declared.instr.BranchOp.{BranchOp}
use Rattle.rv_instr.specs.declared.instr.BranchOp.TheVariants.{Beq, Bne, Blt, Bge, Bltu, Bgeu}
use Rattle.rv_instr.specs.declared.instr.LoadOp.{LoadOp}
use Rattle.rv_instr.specs.declared.instr.LoadOp.TheVariants.{Lb, Lh, Lw, Ld, Lbu, Lhu, Lwu}
use Rattle.rv_instr.specs.declared.instr.StoreOp.{StoreOp}
use Rattle.rv_instr.specs.declared.instr.StoreOp.TheVariants.{Sb, Sh, Sw, Sd}
use Rattle.rv_instr.specs.declared.instr.ImmediateOp.{ImmediateOp}
use Rattle.rv_instr.specs.declared.instr.ImmediateOp.TheVariants.{Addi, Slti, Sltiu, Xori, Ori, Andi, Addiw}
use Rattle.rv_instr.specs.declared.instr.ShiftOp.{ShiftOp}
use Rattle.rv_instr.specs.declared.instr.ShiftOp.TheVariants.{Slli, Srli, Srai}
use Rattle.rv_instr.specs.declared.instr.ShiftWordOp.{ShiftWordOp}
use Rattle.rv_instr.specs.declared.instr.ShiftWordOp.TheVariants.{Slliw, Srliw, Sraiw}
use Rattle.rv_instr.specs.declared.instr.RegisterOp.{RegisterOp}
use Rattle.rv_instr.specs.declared.instr.RegisterOp.TheVariants.{Add, Sub, Sll, Slt, Sltu, Xor, Srl, Sra, Or, And, Addw, Subw, Sllw, Srlw, Sraw, Mul, Mulh, Mulhsu, Mulhu, Div, Divu, Rem, Remu, Mulw, Divw, Divuw, Remw, Remuw}

-- opcode, funct3 and funct7 at their places
abbrev pub fixed : ℕ → ℕ → ℕ → ℕ
fixed opcode funct3 funct7 = opcode + 2 ^ 12 * funct3 + 2 ^ 25 * funct7

abbrev pub upper_code : UpperOp → ℕ
upper_code Lui = fixed 0x37 0 0
upper_code Auipc = fixed 0x17 0 0

abbrev pub branch_code : BranchOp → ℕ
branch_code Beq = fixed 0x63 0 0
branch_code Bne = fixed 0x63 1 0
branch_code Blt = fixed 0x63 4 0
branch_code Bge = fixed 0x63 5 0
branch_code Bltu = fixed 0x63 6 0
branch_code Bgeu = fixed 0x63 7 0

abbrev pub load_code : LoadOp → ℕ
load_code Lb = fixed 0x03 0 0
load_code Lh = fixed 0x03 1 0
load_code Lw = fixed 0x03 2 0
load_code Ld = fixed 0x03 3 0
load_code Lbu = fixed 0x03 4 0
load_code Lhu = fixed 0x03 5 0
load_code Lwu = fixed 0x03 6 0

abbrev pub store_code : StoreOp → ℕ
store_code Sb = fixed 0x23 0 0
store_code Sh = fixed 0x23 1 0
store_code Sw = fixed 0x23 2 0
store_code Sd = fixed 0x23 3 0

abbrev pub immediate_code : ImmediateOp → ℕ
immediate_code Addi = fixed 0x13 0 0
immediate_code Slti = fixed 0x13 2 0
immediate_code Sltiu = fixed 0x13 3 0
immediate_code Xori = fixed 0x13 4 0
immediate_code Ori = fixed 0x13 6 0
immediate_code Andi = fixed 0x13 7 0
immediate_code Addiw = fixed 0x1b 0 0

abbrev pub shift_code : ShiftOp → ℕ
shift_code Slli = fixed 0x13 1 0
shift_code Srli = fixed 0x13 5 0
shift_code Srai = fixed 0x13 5 0x20

abbrev pub word_shift_code : ShiftWordOp → ℕ
word_shift_code Slliw = fixed 0x1b 1 0
word_shift_code Srliw = fixed 0x1b 5 0
word_shift_code Sraiw = fixed 0x1b 5 0x20

abbrev pub register_code : RegisterOp → ℕ
register_code Add = fixed 0x33 0 0
register_code Sub = fixed 0x33 0 0x20
register_code Sll = fixed 0x33 1 0
register_code Slt = fixed 0x33 2 0
register_code Sltu = fixed 0x33 3 0
register_code Xor = fixed 0x33 4 0
register_code Srl = fixed 0x33 5 0
register_code Sra = fixed 0x33 5 0x20
register_code Or = fixed 0x33 6 0
register_code And = fixed 0x33 7 0
register_code Addw = fixed 0x3b 0 0
register_code Subw = fixed 0x3b 0 0x20
register_code Sllw = fixed 0x3b 1 0
register_code Srlw = fixed 0x3b 5 0
register_code Sraw = fixed 0x3b 5 0x20
register_code Mul = fixed 0x33 0 1
register_code Mulh = fixed 0x33 1 1
register_code Mulhsu = fixed 0x33 2 1
register_code Mulhu = fixed 0x33 3 1
register_code Div = fixed 0x33 4 1
register_code Divu = fixed 0x33 5 1
register_code Rem = fixed 0x33 6 1
register_code Remu = fixed 0x33 7 1
register_code Mulw = fixed 0x3b 0 1
register_code Divw = fixed 0x3b 4 1
register_code Divuw = fixed 0x3b 5 1
register_code Remw = fixed 0x3b 6 1
register_code Remuw = fixed 0x3b 7 1

-- a field at its place
abbrev pub at_rd : ℕ → ℕ
at_rd number = 2 ^ 7 * number

abbrev pub at_rs1 : ℕ → ℕ
at_rs1 number = 2 ^ 15 * number

abbrev pub at_rs2 : ℕ → ℕ
at_rs2 number = 2 ^ 20 * number

-- the immediates of the S, B and J formats at their places
abbrev pub at_imm_s : ℕ → ℕ
at_imm_s imm = 2 ^ 7 * (imm % 2 ^ 5) + 2 ^ 25 * (imm / 2 ^ 5)

abbrev pub at_imm_b : ℕ → ℕ
at_imm_b imm =
    2 ^ 7 * (imm / 2 ^ 10 % 2) + 2 ^ 8 * (imm % 2 ^ 4) + 2 ^ 25 * (imm / 2 ^ 4 % 2 ^ 6)
    + 2 ^ 31 * (imm / 2 ^ 11)

abbrev pub at_imm_j : ℕ → ℕ
at_imm_j imm =
    2 ^ 12 * (imm / 2 ^ 11 % 2 ^ 8) + 2 ^ 20 * (imm / 2 ^ 10 % 2) + 2 ^ 21 * (imm % 2 ^ 10)
    + 2 ^ 31 * (imm / 2 ^ 19)

-- the word of an instruction whose fields are in range
unfoldable pub code_of : Instr → ℕ
code_of (Upper op rd imm) = upper_code op + at_rd rd + 2 ^ 12 * imm
code_of (Jal rd imm) = fixed 0x6f 0 0 + at_rd rd + at_imm_j imm
code_of (Jalr rd rs1 imm) = fixed 0x67 0 0 + at_rd rd + at_rs1 rs1 + 2 ^ 20 * imm
code_of (Branch op rs1 rs2 imm) = branch_code op + at_rs1 rs1 + at_rs2 rs2 + at_imm_b imm
code_of (Load op rd rs1 imm) = load_code op + at_rd rd + at_rs1 rs1 + 2 ^ 20 * imm
code_of (Store op rs1 rs2 imm) = store_code op + at_rs1 rs1 + at_rs2 rs2 + at_imm_s imm
code_of (Immediate op rd rs1 imm) = immediate_code op + at_rd rd + at_rs1 rs1 + 2 ^ 20 * imm
code_of (Shift op rd rs1 amount) = shift_code op + at_rd rd + at_rs1 rs1 + 2 ^ 20 * amount
code_of (ShiftWord op rd rs1 amount) = word_shift_code op + at_rd rd + at_rs1 rs1 + 2 ^ 20 * amount
code_of (Register op rd rs1 rs2) = register_code op + at_rd rd + at_rs1 rs1 + at_rs2 rs2
code_of (Fence word) = word
code_of Ecall = 0x00000073
code_of Ebreak = 0x00100073
