use Rattle.std.proofs.Common.{sym, ◌∙◌, arith}
use Rattle.rv_machine.specs.Harts.{harts_in, harts_share}
use Rattle.cfi_step.proofs.Zeros.{all_harts, more_harts}
use Rattle.cfi_step.proofs.hostile.add_zeros_of_harts.Goals as goal

pub loop-hart-preserved : goal.loop-hart-preserved
loop-hart-preserved c =
    more_harts (harts_share c.args.seen.now).memory (harts_in c.args.seen.now) c.loop-hart.zeros.items _ c.loop-hart.hart _ (omega (arith, c.loop-hart-test.true, c.harts-hart-end.ensures.count))
    c.in_ok-add_hart_zeros.ensures ∙ c.loop-hart.invariant

pub returns : goal.returns
returns c =
    sym (all_harts (harts_share c.args.seen.now).memory (harts_in c.args.seen.now) c.loop-hart.zeros.items c.loop-hart.hart _ (omega (arith, c.loop-hart-test.false, c.harts-hart-end.ensures.count))) ∙ c.loop-hart.invariant
