-- The registers that an instruction names and the one that it writes (RISC-V unprivileged ISA, "Base
-- Instruction Formats"): rd, rs1 and rs2, where its format has them. FENCE, ECALL and EBREAK have none.
use Rattle.std.specs.Prelude.{ℕ, Bool, false, ◌||◌, ◌==◌, Option, Some, None}
use Rattle.rv_instr.specs.declared.instr.Instr.{Instr}
use Rattle.rv_instr.specs.declared.instr.Instr.TheVariants.{Upper, Jal, Jalr, Branch, Load, Store, Immediate, Shift, ShiftWord, Register, Fence, Ecall, Ebreak}

-- rd, rs1 or rs2 is `reg`
abbrev pub names : Instr → ℕ → Bool
names (Upper op rd imm) reg = rd == reg
names (Jal rd imm) reg = rd == reg
names (Jalr rd rs1 imm) reg = rd == reg || rs1 == reg
names (Branch op rs1 rs2 imm) reg = rs1 == reg || rs2 == reg
names (Load op rd rs1 imm) reg = rd == reg || rs1 == reg
names (Store op rs1 rs2 imm) reg = rs1 == reg || rs2 == reg
names (Immediate op rd rs1 imm) reg = rd == reg || rs1 == reg
names (Shift op rd rs1 amount) reg = rd == reg || rs1 == reg
names (ShiftWord op rd rs1 amount) reg = rd == reg || rs1 == reg
names (Register op rd rs1 rs2) reg = rd == reg || rs1 == reg || rs2 == reg
names (Fence word) reg = false
names Ecall reg = false
names Ebreak reg = false

-- rd
abbrev pub written : Instr → Option ℕ
written (Upper op rd imm) = Some rd
written (Jal rd imm) = Some rd
written (Jalr rd rs1 imm) = Some rd
written (Branch op rs1 rs2 imm) = None
written (Load op rd rs1 imm) = Some rd
written (Store op rs1 rs2 imm) = None
written (Immediate op rd rs1 imm) = Some rd
written (Shift op rd rs1 amount) = Some rd
written (ShiftWord op rd rs1 amount) = Some rd
written (Register op rd rs1 rs2) = Some rd
written (Fence word) = None
written Ecall = None
written Ebreak = None
