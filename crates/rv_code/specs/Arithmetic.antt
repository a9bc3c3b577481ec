-- What instructions compute (RISC-V unprivileged ISA, "Integer Computational Instructions" of RV32I
-- and RV64I, "M Extension for Integer Multiplication and Division"). Register values are numbers below
-- 2 ^ 64; sums and products wrap.
use Rattle.std.specs.Prelude.{ℕ, ◌+◌, ◌-◌, ◌*◌, ◌/◌, ◌%◌, ◌^◌, ◌*ℤ◌, nat_lt, ◌==◌, Bool, true, false, not, if◌then◌else◌, bit_and, bit_or, bit_xor}
use Rattle.std.specs.Int.{cast_signed, w32, w64}
use Rattle.std.specs.Int.Signed.{lt_z}
use Rattle.rv_word.specs.Bits.{sign_extended, wrap}
use Rattle.rv_word.specs.Multiply.{whole, high_bits}
use Rattle.rv_word.specs.Divide.{quotient, remainder}
use Rattle.rv_instr.specs.declared.instr.ImmediateOp.{ImmediateOp}
use Rattle.rv_instr.specs.declared.instr.ImmediateOp.TheVariants.{Addi, Slti, Sltiu, Xori, Ori, Andi, Addiw}
use Rattle.rv_instr.specs.declared.instr.ShiftOp.{ShiftOp}
use Rattle.rv_instr.specs.declared.instr.ShiftOp.TheVariants.{Slli, Srli, Srai}
use Rattle.rv_instr.specs.declared.instr.ShiftWordOp.{ShiftWordOp}
use Rattle.rv_instr.specs.declared.instr.ShiftWordOp.TheVariants.{Slliw, Srliw, Sraiw}
use Rattle.rv_instr.specs.declared.instr.RegisterOp.{RegisterOp}
use Rattle.rv_instr.specs.declared.instr.RegisterOp.TheVariants.{Add, Sub, Sll, Slt, Sltu, Xor, Srl, Sra, Or, And, Addw, Subw, Sllw, Srlw, Sraw, Mul, Mulh, Mulhsu, Mulhu, Div, Divu, Rem, Remu, Mulw, Divw, Divuw, Remw, Remuw}
use Rattle.rv_instr.specs.declared.instr.BranchOp.{BranchOp}
use Rattle.rv_instr.specs.declared.instr.BranchOp.TheVariants.{Beq, Bne, Blt, Bge, Bltu, Bgeu}
use Rattle.rv_instr.specs.declared.instr.LoadOp.{LoadOp}
use Rattle.rv_instr.specs.declared.instr.LoadOp.TheVariants.{Lb, Lh, Lw, Ld, Lbu, Lhu, Lwu}
use Rattle.rv_instr.specs.declared.instr.StoreOp.{StoreOp}
use Rattle.rv_instr.specs.declared.instr.StoreOp.TheVariants.{Sb, Sh, Sw, Sd}

-- the low 32 bits, sign-extended, as the instructions on words give them
abbrev pub word : ℕ → ℕ
word n = sign_extended n 32

-- the difference of two 64-bit numbers, which wraps
abbrev pub difference : ℕ → ℕ → ℕ
difference a b = wrap (a + (2 ^ 64 - b))

-- whether a is less than b as signed 64-bit numbers
abbrev pub signed_less : ℕ → ℕ → Bool
signed_less a b = lt_z (cast_signed w64 a) (cast_signed w64 b)

-- a comparison's result as a number
abbrev pub one_if : Bool → ℕ
one_if b = if b then 1 else 0

-- an arithmetic right shift of a number of `bits` bits: the sign moves into the upper bits, and on
-- to the 64th
abbrev pub shifted_signed : ℕ → ℕ → ℕ → ℕ
shifted_signed bits n amount = sign_extended (n % 2 ^ bits / 2 ^ amount) (bits - amount)

-- a: the source register; i: the immediate, sign-extended
abbrev pub immediate_result : ImmediateOp → ℕ → ℕ → ℕ
immediate_result Addi a i = wrap (a + i)
immediate_result Slti a i = one_if (signed_less a i)
immediate_result Sltiu a i = one_if (nat_lt a i)
immediate_result Xori a i = bit_xor a i
immediate_result Ori a i = bit_or a i
immediate_result Andi a i = bit_and a i
immediate_result Addiw a i = word (a + i)

-- a shift by a constant, on all 64 bits
abbrev pub shift_result : ShiftOp → ℕ → ℕ → ℕ
shift_result Slli a amount = wrap (a * 2 ^ amount)
shift_result Srli a amount = a / 2 ^ amount
shift_result Srai a amount = shifted_signed 64 a amount

-- a shift by a constant, on the low 32 bits
abbrev pub shift_word_result : ShiftWordOp → ℕ → ℕ → ℕ
shift_word_result Slliw a amount = word (a * 2 ^ amount)
shift_word_result Srliw a amount = word (a % 2 ^ 32 / 2 ^ amount)
shift_word_result Sraiw a amount = shifted_signed 32 a amount

-- a computation on two registers: shift amounts are the low 6 bits of b, or 5 for words; the upper
-- half of a product is of two numbers with a sign, one with it, or none
abbrev pub register_result : RegisterOp → ℕ → ℕ → ℕ
register_result Add a b = wrap (a + b)
register_result Sub a b = difference a b
register_result Sll a b = shift_result Slli a (b % 2 ^ 6)
register_result Slt a b = one_if (signed_less a b)
register_result Sltu a b = one_if (nat_lt a b)
register_result Xor a b = bit_xor a b
register_result Srl a b = shift_result Srli a (b % 2 ^ 6)
register_result Sra a b = shift_result Srai a (b % 2 ^ 6)
register_result Or a b = bit_or a b
register_result And a b = bit_and a b
register_result Addw a b = word (a + b)
register_result Subw a b = word (a + (2 ^ 64 - b))
register_result Sllw a b = shift_word_result Slliw a (b % 2 ^ 5)
register_result Srlw a b = shift_word_result Srliw a (b % 2 ^ 5)
register_result Sraw a b = shift_word_result Sraiw a (b % 2 ^ 5)
register_result Mul a b = wrap (a * b)
register_result Mulh a b = high_bits (whole w64 true a *ℤ whole w64 true b)
register_result Mulhsu a b = high_bits (whole w64 true a *ℤ whole w64 false b)
register_result Mulhu a b = high_bits (whole w64 false a *ℤ whole w64 false b)
register_result Div a b = quotient w64 true a b
register_result Divu a b = quotient w64 false a b
register_result Rem a b = remainder w64 true a b
register_result Remu a b = remainder w64 false a b
register_result Mulw a b = word (a * b)
register_result Divw a b = word (quotient w32 true (a % 2 ^ 32) (b % 2 ^ 32))
register_result Divuw a b = word (quotient w32 false (a % 2 ^ 32) (b % 2 ^ 32))
register_result Remw a b = word (remainder w32 true (a % 2 ^ 32) (b % 2 ^ 32))
register_result Remuw a b = word (remainder w32 false (a % 2 ^ 32) (b % 2 ^ 32))

-- whether a branch is taken
abbrev pub branch_taken : BranchOp → ℕ → ℕ → Bool
branch_taken Beq a b = a == b
branch_taken Bne a b = not (a == b)
branch_taken Blt a b = signed_less a b
branch_taken Bge a b = not (signed_less a b)
branch_taken Bltu a b = nat_lt a b
branch_taken Bgeu a b = not (nat_lt a b)

-- how many bytes a load reads
abbrev pub load_size : LoadOp → ℕ
load_size Lb = 1
load_size Lh = 2
load_size Lw = 4
load_size Ld = 8
load_size Lbu = 1
load_size Lhu = 2
load_size Lwu = 4

-- what a load puts into its register, from the number that it read
abbrev pub load_result : LoadOp → ℕ → ℕ
load_result Lb n = sign_extended n 8
load_result Lh n = sign_extended n 16
load_result Lw n = sign_extended n 32
load_result Ld n = n
load_result Lbu n = n
load_result Lhu n = n
load_result Lwu n = n

-- how many bytes a store writes
abbrev pub store_size : StoreOp → ℕ
store_size Sb = 1
store_size Sh = 2
store_size Sw = 4
store_size Sd = 8
