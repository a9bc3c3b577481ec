-- The ranges of an instruction's fields (RISC-V unprivileged ISA, "Base Instruction Formats"): the
-- number of a register has five bits, an immediate has as many bits as its format gives it.
use Rattle.std.specs.Prelude.{ℕ, ◌<◌, ◌^◌}
use Rattle.rv_instr.specs.declared.instr.Instr.{Instr}
use Rattle.rv_instr.specs.declared.instr.Instr.TheVariants.{Upper, Jal, Jalr, Branch, Load, Store, Immediate, Shift, ShiftWord, Register, Fence, Ecall, Ebreak}
use Rattle.rv_instr.specs.Fence.{IsFence}

abbrev pub IsRegister : ℕ → Type 0
IsRegister number = number < 32

abbrev pub IsInstr : Instr → Type 0
IsInstr (Upper op rd imm) = IsRegister rd × (imm < 2 ^ 20)
IsInstr (Jal rd imm) = IsRegister rd × (imm < 2 ^ 20)
IsInstr (Jalr rd rs1 imm) = IsRegister rd × IsRegister rs1 × (imm < 2 ^ 12)
IsInstr (Branch op rs1 rs2 imm) = IsRegister rs1 × IsRegister rs2 × (imm < 2 ^ 12)
IsInstr (Load op rd rs1 imm) = IsRegister rd × IsRegister rs1 × (imm < 2 ^ 12)
IsInstr (Store op rs1 rs2 imm) = IsRegister rs1 × IsRegister rs2 × (imm < 2 ^ 12)
IsInstr (Immediate op rd rs1 imm) = IsRegister rd × IsRegister rs1 × (imm < 2 ^ 12)
IsInstr (Shift op rd rs1 amount) = IsRegister rd × IsRegister rs1 × (amount < 2 ^ 6)
IsInstr (ShiftWord op rd rs1 amount) = IsRegister rd × IsRegister rs1 × (amount < 2 ^ 5)
IsInstr (Register op rd rs1 rs2) = IsRegister rd × IsRegister rs1 × IsRegister rs2
IsInstr (Fence word) = IsFence word
IsInstr Ecall = Unit {0}
IsInstr Ebreak = Unit {0}
