use Rattle.std.proofs.Common.{sym, ◌∙◌}
use Rattle.cfi_gen.specs.Writing.{written_in}
use Rattle.cfi_gen.proofs.Writing.{instr_next, instrs_end}
use Rattle.cfi_gen.proofs.text.Text.put_all.Goals as goal

pub loop-instr-preserved : goal.loop-instr-preserved
loop-instr-preserved c =
    instr_next c.args.instrs.now c.loop-instr.instr-index c.instr-item.result (written_in c.loop-instr.self) (written_in c.put.new.self) c.loop-instr-test.true c.instr-item.is c.in_ok-put.ensures
    ∙ c.loop-instr.invariant

pub returns : goal.returns
returns c =
    sym (instrs_end c.args.instrs.now c.loop-instr.instr-index (written_in c.loop-instr.self) c.loop-instr-test.false) ∙ c.loop-instr.invariant
