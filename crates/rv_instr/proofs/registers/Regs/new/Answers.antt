use Rattle.rv_instr.proofs.RegisterFile.{regs_of-zeros}
use Rattle.rv_instr.proofs.registers.Regs.new.Goals as goal

pub returns : goal.returns
returns c = regs_of-zeros 32
