use Rattle.std.proofs.Common.{ap, ◌∙◌, arith}
use Rattle.std.specs.Prelude.{slice_set}
use Rattle.rv_instr.specs.Registers.{regs_of, set_reg}
use Rattle.rv_instr.proofs.RegisterFile.{regs_of-set}
use Rattle.rv_instr.proofs.registers.Regs.set.Goals as goal

pub returns-then-number-ne0 : goal.returns-then-number-ne0
returns-then-number-ne0 c =
    ap (λ n. regs_of (slice_set c.self.inside.values n c.args.value))
    (c.from.ensures ∙ c.number-then-number-ne0.ensures.value)
    ∙ regs_of-set c.self.inside.values c.args.reg c.args.value
    (λ zero. c.if-number-ne0.true (c.number.ensures.value ∙ zero)) (omega arith)
    ∙ ap (λ values. set_reg (regs_of values) c.args.reg c.args.value) c.self.view_is
