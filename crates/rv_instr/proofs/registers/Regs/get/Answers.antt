use Rattle.std.proofs.Common.{ap, sym, ◌∙◌}
use Rattle.std.specs.Prelude.{slice_index}
use Rattle.rv_instr.specs.Registers.{get_reg, regs_of}
use Rattle.rv_instr.proofs.RegisterFile.{get_reg-regs_of}
use Rattle.rv_instr.proofs.registers.Regs.get.Goals as goal

pub returns : goal.returns
returns c =
    ap (slice_index c.self.inside.values) (c.from.ensures ∙ c.number.ensures.value)
    ∙ sym (get_reg-regs_of c.self.inside.values c.args.reg c.self.invariant)
    ∙ ap (λ values. get_reg (regs_of values) c.args.reg) c.self.view_is
