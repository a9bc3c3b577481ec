-- Instructions as the assembler writes them: `addi rd,rs1,imm`, `ld rd,imm(rs1)`, `sd rs2,imm(rs1)`, `jalr rd,imm(rs1)`.
use Rattle.std.specs.Prelude.{ℕ, ◌-◌, ◌^◌}
use Rattle.rv_instr.specs.declared.instr.Instr.{Instr}
use Rattle.rv_instr.specs.declared.instr.Instr.TheVariants.{Upper, Jalr, Branch, Load, Store, Immediate}
use Rattle.rv_instr.specs.declared.instr.UpperOp.TheVariants.{Lui, Auipc}
use Rattle.rv_instr.specs.declared.instr.BranchOp.TheVariants.{Bne}
use Rattle.rv_instr.specs.declared.instr.LoadOp.TheVariants.{Ld}
use Rattle.rv_instr.specs.declared.instr.StoreOp.TheVariants.{Sd}
use Rattle.rv_instr.specs.declared.instr.ImmediateOp.TheVariants.{Addi}

abbrev pub addi : ℕ → ℕ → ℕ → Instr
addi rd rs1 imm = Immediate Addi rd rs1 imm

abbrev pub ld : ℕ → ℕ → ℕ → Instr
ld rd imm rs1 = Load Ld rd rs1 imm

abbrev pub sd : ℕ → ℕ → ℕ → Instr
sd rs2 imm rs1 = Store Sd rs1 rs2 imm

abbrev pub jalr : ℕ → ℕ → ℕ → Instr
jalr rd imm rs1 = Jalr rd rs1 imm

-- the offset in multiples of two bytes
abbrev pub bne : ℕ → ℕ → ℕ → Instr
bne rs1 rs2 imm = Branch Bne rs1 rs2 imm

-- with an immediate of 0, which a relocation gives
abbrev pub lui : ℕ → Instr
lui rd = Upper Lui rd 0

abbrev pub auipc : ℕ → Instr
auipc rd = Upper Auipc rd 0

-- the field of 12 bits that says a number below zero
abbrev pub minus : ℕ → ℕ
minus n = 2 ^ 12 - n
