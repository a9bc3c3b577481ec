-- Instructions in the form in which a step takes them.
use Rattle.rv_instr.specs.declared.instr.Instr.{Instr}
use Rattle.rv_instr.specs.declared.instr.Instr.TheVariants as instrs
use Rattle.rv_instr.specs.declared.instr.UpperOp.TheVariants as uppers
use Rattle.rv_instr.specs.declared.instr.BranchOp.TheVariants as branches
use Rattle.rv_instr.specs.declared.instr.LoadOp.TheVariants as loads
use Rattle.rv_instr.specs.declared.instr.StoreOp.TheVariants as stores
use Rattle.rv_instr.specs.declared.instr.ImmediateOp.TheVariants as immediates
use Rattle.rv_instr.specs.declared.instr.ShiftOp.TheVariants as shifts
use Rattle.rv_instr.specs.declared.instr.ShiftWordOp.TheVariants as word_shifts
use Rattle.rv_instr.specs.declared.instr.RegisterOp.TheVariants as registers
use Rattle.rv_machine.specs.declared.ready.Ready.{Ready}
use Rattle.rv_machine.specs.declared.ready.Ready.TheVariants as forms

-- the instruction that it is
abbrev pub instr_of : Ready → Instr
instr_of (forms.Lui rd imm) = instrs.Upper uppers.Lui rd imm
instr_of (forms.Jal rd imm) = instrs.Jal rd imm
instr_of (forms.Jalr rd rs1 imm) = instrs.Jalr rd rs1 imm
instr_of (forms.Beq rs1 rs2 imm) = instrs.Branch branches.Beq rs1 rs2 imm
instr_of (forms.Bne rs1 rs2 imm) = instrs.Branch branches.Bne rs1 rs2 imm
instr_of (forms.Blt rs1 rs2 imm) = instrs.Branch branches.Blt rs1 rs2 imm
instr_of (forms.Bge rs1 rs2 imm) = instrs.Branch branches.Bge rs1 rs2 imm
instr_of (forms.Bltu rs1 rs2 imm) = instrs.Branch branches.Bltu rs1 rs2 imm
instr_of (forms.Bgeu rs1 rs2 imm) = instrs.Branch branches.Bgeu rs1 rs2 imm
instr_of (forms.Lw rd rs1 imm) = instrs.Load loads.Lw rd rs1 imm
instr_of (forms.Ld rd rs1 imm) = instrs.Load loads.Ld rd rs1 imm
instr_of (forms.Lbu rd rs1 imm) = instrs.Load loads.Lbu rd rs1 imm
instr_of (forms.Sb rs1 rs2 imm) = instrs.Store stores.Sb rs1 rs2 imm
instr_of (forms.Sw rs1 rs2 imm) = instrs.Store stores.Sw rs1 rs2 imm
instr_of (forms.Sd rs1 rs2 imm) = instrs.Store stores.Sd rs1 rs2 imm
instr_of (forms.Addi rd rs1 imm) = instrs.Immediate immediates.Addi rd rs1 imm
instr_of (forms.Andi rd rs1 imm) = instrs.Immediate immediates.Andi rd rs1 imm
instr_of (forms.Addiw rd rs1 imm) = instrs.Immediate immediates.Addiw rd rs1 imm
instr_of (forms.Slli rd rs1 amount) = instrs.Shift shifts.Slli rd rs1 amount
instr_of (forms.Srli rd rs1 amount) = instrs.Shift shifts.Srli rd rs1 amount
instr_of (forms.Slliw rd rs1 amount) = instrs.ShiftWord word_shifts.Slliw rd rs1 amount
instr_of (forms.Srliw rd rs1 amount) = instrs.ShiftWord word_shifts.Srliw rd rs1 amount
instr_of (forms.Add rd rs1 rs2) = instrs.Register registers.Add rd rs1 rs2
instr_of (forms.Sub rd rs1 rs2) = instrs.Register registers.Sub rd rs1 rs2
instr_of (forms.Xor rd rs1 rs2) = instrs.Register registers.Xor rd rs1 rs2
instr_of (forms.Or rd rs1 rs2) = instrs.Register registers.Or rd rs1 rs2
instr_of (forms.And rd rs1 rs2) = instrs.Register registers.And rd rs1 rs2
instr_of (forms.Addw rd rs1 rs2) = instrs.Register registers.Addw rd rs1 rs2
instr_of (forms.Mul rd rs1 rs2) = instrs.Register registers.Mul rd rs1 rs2
instr_of (forms.Register op rd rs1 rs2) = instrs.Register op rd rs1 rs2
instr_of (forms.Other instr) = instr
