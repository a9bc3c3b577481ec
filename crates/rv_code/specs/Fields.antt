-- The fields of an instruction's word, and the immediates that they make (RISC-V unprivileged ISA,
-- "Base Instruction Formats" and "Immediate Encoding Variants").
use Rattle.std.specs.Prelude.{ℕ, ◌+◌, ◌*◌, ◌/◌, ◌%◌, ◌^◌}

pub record Fields : Type 0 where
  pub opcode : ℕ
  pub rd : ℕ
  pub funct3 : ℕ
  pub rs1 : ℕ
  pub rs2 : ℕ
  pub funct7 : ℕ

abbrev pub fields_of : ℕ → Fields
fields_of word = record {
  opcode = word % 2 ^ 7;
  rd = word / 2 ^ 7 % 2 ^ 5;
  funct3 = word / 2 ^ 12 % 2 ^ 3;
  rs1 = word / 2 ^ 15 % 2 ^ 5;
  rs2 = word / 2 ^ 20 % 2 ^ 5;
  funct7 = word / 2 ^ 25;
}

-- imm[11:0] of the I and S formats
abbrev pub imm_i : Fields → ℕ
imm_i f = 2 ^ 5 * f.funct7 + f.rs2

abbrev pub imm_s : Fields → ℕ
imm_s f = 2 ^ 5 * f.funct7 + f.rd

-- imm[12:1] of the B format: bit 31, bit 7, bits 30 to 25, bits 11 to 8
abbrev pub imm_b : Fields → ℕ
imm_b f = 2 ^ 11 * (f.funct7 / 2 ^ 6) + 2 ^ 10 * (f.rd % 2) + 2 ^ 4 * (f.funct7 % 2 ^ 6) + f.rd / 2

-- imm[31:12] of the U format
abbrev pub imm_u : Fields → ℕ
imm_u f = 2 ^ 13 * f.funct7 + 2 ^ 8 * f.rs2 + 2 ^ 3 * f.rs1 + f.funct3

-- imm[20:1] of the J format: bit 31, bits 19 to 12, bit 20, bits 30 to 21
abbrev pub imm_j : Fields → ℕ
imm_j f =
    2 ^ 19 * (f.funct7 / 2 ^ 6) + 2 ^ 11 * (2 ^ 3 * f.rs1 + f.funct3) + 2 ^ 10 * (f.rs2 % 2)
    + 2 ^ 4 * (f.funct7 % 2 ^ 6) + f.rs2 / 2

-- the amount of a 64-bit shift: bits 25 to 20
abbrev pub shift_amount : Fields → ℕ
shift_amount f = 2 ^ 5 * (f.funct7 % 2) + f.rs2

-- two function fields as one number
abbrev pub with_funct3 : ℕ → ℕ → ℕ
with_funct3 high funct3 = 2 ^ 3 * high + funct3
