-- The operations of each opcode by their function fields (RISC-V unprivileged ISA, "RV32/64G
-- Instruction Set Listings").
use Rattle.std.specs.Prelude.{ℕ, ◌==◌, if◌then◌else◌, List, [], ◌∷◌, Option, Some, None}
use Rattle.rv_instr.specs.declared.instr.BranchOp.{BranchOp}
use Rattle.rv_instr.specs.declared.instr.BranchOp.TheVariants.{Beq, Bne, Blt, Bge, Bltu, Bgeu}
use Rattle.rv_instr.specs.declared.instr.LoadOp.{LoadOp}
use Rattle.rv_instr.specs.declared.instr.LoadOp.TheVariants.{Lb, Lh, Lw, Ld, Lbu, Lhu, Lwu}
use Rattle.rv_instr.specs.declared.instr.StoreOp.{StoreOp}
use Rattle.rv_instr.specs.declared.instr.StoreOp.TheVariants.{Sb, Sh, Sw, Sd}
use Rattle.rv_instr.specs.declared.instr.ImmediateOp.{ImmediateOp}
use Rattle.rv_instr.specs.declared.instr.ImmediateOp.TheVariants.{Addi, Slti, Sltiu, Xori, Ori, Andi}
use Rattle.rv_instr.specs.declared.instr.ShiftOp.{ShiftOp}
use Rattle.rv_instr.specs.declared.instr.ShiftOp.TheVariants.{Slli, Srli, Srai}
use Rattle.rv_instr.specs.declared.instr.ShiftWordOp.{ShiftWordOp}
use Rattle.rv_instr.specs.declared.instr.ShiftWordOp.TheVariants.{Slliw, Srliw, Sraiw}
use Rattle.rv_instr.specs.declared.instr.RegisterOp.{RegisterOp}
use Rattle.rv_instr.specs.declared.instr.RegisterOp.TheVariants.{Add, Sub, Sll, Slt, Sltu, Xor, Srl, Sra, Or, And, Addw, Subw, Sllw, Srlw, Sraw, Mul, Mulh, Mulhsu, Mulhu, Div, Divu, Rem, Remu, Mulw, Divw, Divuw, Remw, Remuw}
use Rattle.rv_code.specs.Fields.{with_funct3}

-- what a table has at a number
abbrev pub row : {A : Type 0} → List (ℕ × A) → ℕ → Option A
row [] n = None
row (r ∷ rows) n = if n == r.0 then Some r.1 else row rows n

-- opcode 63h, by funct3
abbrev pub branches : List (ℕ × BranchOp)
branches = (0, Beq) ∷ (1, Bne) ∷ (4, Blt) ∷ (5, Bge) ∷ (6, Bltu) ∷ (7, Bgeu) ∷ []

-- opcode 03h, by funct3
abbrev pub loads : List (ℕ × LoadOp)
loads = (0, Lb) ∷ (1, Lh) ∷ (2, Lw) ∷ (3, Ld) ∷ (4, Lbu) ∷ (5, Lhu) ∷ (6, Lwu) ∷ []

-- opcode 23h, by funct3
abbrev pub stores : List (ℕ × StoreOp)
stores = (0, Sb) ∷ (1, Sh) ∷ (2, Sw) ∷ (3, Sd) ∷ []

-- opcode 13h, by funct3
abbrev pub immediates : List (ℕ × ImmediateOp)
immediates = (0, Addi) ∷ (2, Slti) ∷ (3, Sltiu) ∷ (4, Xori) ∷ (6, Ori) ∷ (7, Andi) ∷ []

-- opcode 13h, by bits 31 to 26 and funct3
abbrev pub shifts : List (ℕ × ShiftOp)
shifts = (with_funct3 0 1, Slli) ∷ (with_funct3 0 5, Srli) ∷ (with_funct3 0x10 5, Srai) ∷ []

-- opcode 1Bh, by funct7 and funct3
abbrev pub word_shifts : List (ℕ × ShiftWordOp)
word_shifts = (with_funct3 0 1, Slliw) ∷ (with_funct3 0 5, Srliw) ∷ (with_funct3 0x20 5, Sraiw) ∷ []

-- opcode 33h, by funct7 and funct3
abbrev pub registers : List (ℕ × RegisterOp)
registers =
    (with_funct3 0 0, Add) ∷ (with_funct3 0 1, Sll) ∷ (with_funct3 0 2, Slt) ∷ (with_funct3 0 3, Sltu)
    ∷ (with_funct3 0 4, Xor) ∷ (with_funct3 0 5, Srl) ∷ (with_funct3 0 6, Or) ∷ (with_funct3 0 7, And)
    ∷ (with_funct3 0x20 0, Sub) ∷ (with_funct3 0x20 5, Sra)
    ∷ (with_funct3 1 0, Mul) ∷ (with_funct3 1 1, Mulh) ∷ (with_funct3 1 2, Mulhsu) ∷ (with_funct3 1 3, Mulhu)
    ∷ (with_funct3 1 4, Div) ∷ (with_funct3 1 5, Divu) ∷ (with_funct3 1 6, Rem) ∷ (with_funct3 1 7, Remu) ∷ []

-- opcode 3Bh, by funct7 and funct3
abbrev pub word_registers : List (ℕ × RegisterOp)
word_registers =
    (with_funct3 0 0, Addw) ∷ (with_funct3 0 1, Sllw) ∷ (with_funct3 0 5, Srlw)
    ∷ (with_funct3 0x20 0, Subw) ∷ (with_funct3 0x20 5, Sraw)
    ∷ (with_funct3 1 0, Mulw) ∷ (with_funct3 1 4, Divw) ∷ (with_funct3 1 5, Divuw)
    ∷ (with_funct3 1 6, Remw) ∷ (with_funct3 1 7, Remuw) ∷ []
