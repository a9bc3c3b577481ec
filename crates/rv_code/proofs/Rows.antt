-- Where the tables have each operation, and that the operations which they have fix these numbers.
use Rattle.std.proofs.Common.{◌≡◌, ℕ, ◌*◌, ◌<◌, ◌^◌, refl, lit<, false, ◌⊎◌, inl, inr}
use Rattle.std.specs.Prelude.{List, Some, None, ◌==◌}
use Rattle.rv_instr.specs.declared.instr.BranchOp.{BranchOp}
use Rattle.rv_instr.specs.declared.instr.BranchOp.TheVariants.{Beq, Bne, Blt, Bge, Bltu, Bgeu}
use Rattle.rv_instr.specs.declared.instr.LoadOp.{LoadOp}
use Rattle.rv_instr.specs.declared.instr.LoadOp.TheVariants.{Lb, Lh, Lw, Ld, Lbu, Lhu, Lwu}
use Rattle.rv_instr.specs.declared.instr.StoreOp.{StoreOp}
use Rattle.rv_instr.specs.declared.instr.StoreOp.TheVariants.{Sb, Sh, Sw, Sd}
use Rattle.rv_instr.specs.declared.instr.ImmediateOp.{ImmediateOp}
use Rattle.rv_instr.specs.declared.instr.ImmediateOp.TheVariants.{Addi, Slti, Sltiu, Xori, Ori, Andi, Addiw}
use Rattle.rv_instr.specs.declared.instr.ShiftOp.{ShiftOp}
use Rattle.rv_instr.specs.declared.instr.ShiftOp.TheVariants.{Slli, Srli, Srai}
use Rattle.rv_instr.specs.declared.instr.ShiftWordOp.{ShiftWordOp}
use Rattle.rv_instr.specs.declared.instr.ShiftWordOp.TheVariants.{Slliw, Srliw, Sraiw}
use Rattle.rv_instr.specs.declared.instr.RegisterOp.{RegisterOp}
use Rattle.rv_instr.specs.declared.instr.RegisterOp.TheVariants.{Add, Sub, Sll, Slt, Sltu, Xor, Srl, Sra, Or, And, Addw, Subw, Sllw, Srlw, Sraw, Mul, Mulh, Mulhsu, Mulhu, Div, Divu, Rem, Remu, Mulw, Divw, Divuw, Remw, Remuw}
use Rattle.rv_code.specs.Fields.{with_funct3}
use Rattle.rv_code.specs.Tables.{row, branches, loads, stores, immediates, shifts, word_shifts, registers, word_registers}
use Rattle.rv_code.specs.Encode.{fixed, branch_code, load_code, store_code, immediate_code, shift_code, word_shift_code, register_code}

-- an operation stands in a table of funct3
abbrev pub ByFunct3 : {A : Type 0} → List (ℕ × A) → ℕ → ℕ → A → Type 0
ByFunct3 rows code opcode op =
    (funct3 : ℕ) × (funct3 < 2 ^ 3) × (code ≡ fixed opcode funct3 0) × (row rows funct3 ≡ Some op)

pub branch_row : (op : BranchOp) → ByFunct3 branches (branch_code op) 0x63 op
branch_row Beq = (0, lit< tt, refl, refl)
branch_row Bne = (1, lit< tt, refl, refl)
branch_row Blt = (4, lit< tt, refl, refl)
branch_row Bge = (5, lit< tt, refl, refl)
branch_row Bltu = (6, lit< tt, refl, refl)
branch_row Bgeu = (7, lit< tt, refl, refl)

pub load_row : (op : LoadOp) → ByFunct3 loads (load_code op) 0x03 op
load_row Lb = (0, lit< tt, refl, refl)
load_row Lh = (1, lit< tt, refl, refl)
load_row Lw = (2, lit< tt, refl, refl)
load_row Ld = (3, lit< tt, refl, refl)
load_row Lbu = (4, lit< tt, refl, refl)
load_row Lhu = (5, lit< tt, refl, refl)
load_row Lwu = (6, lit< tt, refl, refl)

pub store_row : (op : StoreOp) → ByFunct3 stores (store_code op) 0x23 op
store_row Sb = (0, lit< tt, refl, refl)
store_row Sh = (1, lit< tt, refl, refl)
store_row Sw = (2, lit< tt, refl, refl)
store_row Sd = (3, lit< tt, refl, refl)

pub immediate_row : (op : ImmediateOp) → ByFunct3 immediates (immediate_code op) 0x13 op ⊎ (op ≡ Addiw)
immediate_row Addi = inl (0, lit< tt, refl, refl)
immediate_row Slti = inl (2, lit< tt, refl, refl)
immediate_row Sltiu = inl (3, lit< tt, refl, refl)
immediate_row Xori = inl (4, lit< tt, refl, refl)
immediate_row Ori = inl (6, lit< tt, refl, refl)
immediate_row Andi = inl (7, lit< tt, refl, refl)
immediate_row Addiw = inr refl

-- a shift stands in the table of bits 31 to 26 and funct3, and no computation has its funct3
abbrev pub ShiftRow : ShiftOp → Type 0
ShiftRow op =
    (high : ℕ) × (funct3 : ℕ) × (funct3 < 2 ^ 3) × (shift_code op ≡ fixed 0x13 funct3 (2 * high))
    × (row shifts (with_funct3 high funct3) ≡ Some op) × (row immediates funct3 ≡ None)

pub shift_row : (op : ShiftOp) → ShiftRow op
shift_row Slli = (0, 1, lit< tt, refl, refl, refl)
shift_row Srli = (0, 5, lit< tt, refl, refl, refl)
shift_row Srai = (0x10, 5, lit< tt, refl, refl, refl)

abbrev pub WordShiftRow : ShiftWordOp → Type 0
WordShiftRow op =
    (funct7 : ℕ) × (funct3 : ℕ) × (funct3 < 2 ^ 3) × (word_shift_code op ≡ fixed 0x1b funct3 funct7)
    × (row word_shifts (with_funct3 funct7 funct3) ≡ Some op) × ((funct3 == 0) ≡ false)

pub word_shift_row : (op : ShiftWordOp) → WordShiftRow op
word_shift_row Slliw = (0, 1, lit< tt, refl, refl, refl)
word_shift_row Srliw = (0, 5, lit< tt, refl, refl, refl)
word_shift_row Sraiw = (0x20, 5, lit< tt, refl, refl, refl)

-- an operation on two registers stands in a table of funct7 and funct3
abbrev pub ByFunct10 : List (ℕ × RegisterOp) → ℕ → RegisterOp → Type 0
ByFunct10 rows opcode op =
    (funct7 : ℕ) × (funct3 : ℕ) × (funct3 < 2 ^ 3) × (register_code op ≡ fixed opcode funct3 funct7)
    × (row rows (with_funct3 funct7 funct3) ≡ Some op)

pub register_row : (op : RegisterOp) → ByFunct10 registers 0x33 op ⊎ ByFunct10 word_registers 0x3b op
register_row Add = inl (0, 0, lit< tt, refl, refl)
register_row Sub = inl (0x20, 0, lit< tt, refl, refl)
register_row Sll = inl (0, 1, lit< tt, refl, refl)
register_row Slt = inl (0, 2, lit< tt, refl, refl)
register_row Sltu = inl (0, 3, lit< tt, refl, refl)
register_row Xor = inl (0, 4, lit< tt, refl, refl)
register_row Srl = inl (0, 5, lit< tt, refl, refl)
register_row Sra = inl (0x20, 5, lit< tt, refl, refl)
register_row Or = inl (0, 6, lit< tt, refl, refl)
register_row And = inl (0, 7, lit< tt, refl, refl)
register_row Addw = inr (0, 0, lit< tt, refl, refl)
register_row Subw = inr (0x20, 0, lit< tt, refl, refl)
register_row Sllw = inr (0, 1, lit< tt, refl, refl)
register_row Srlw = inr (0, 5, lit< tt, refl, refl)
register_row Sraw = inr (0x20, 5, lit< tt, refl, refl)
register_row Mul = inl (1, 0, lit< tt, refl, refl)
register_row Mulh = inl (1, 1, lit< tt, refl, refl)
register_row Mulhsu = inl (1, 2, lit< tt, refl, refl)
register_row Mulhu = inl (1, 3, lit< tt, refl, refl)
register_row Div = inl (1, 4, lit< tt, refl, refl)
register_row Divu = inl (1, 5, lit< tt, refl, refl)
register_row Rem = inl (1, 6, lit< tt, refl, refl)
register_row Remu = inl (1, 7, lit< tt, refl, refl)
register_row Mulw = inr (1, 0, lit< tt, refl, refl)
register_row Divw = inr (1, 4, lit< tt, refl, refl)
register_row Divuw = inr (1, 5, lit< tt, refl, refl)
register_row Remw = inr (1, 6, lit< tt, refl, refl)
register_row Remuw = inr (1, 7, lit< tt, refl, refl)
