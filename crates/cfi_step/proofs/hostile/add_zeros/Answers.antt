use Rattle.std.proofs.Common.{sym, ◌∙◌}
use Rattle.cfi_step.proofs.Zeros.{all_zeros, more_zeros}
use Rattle.cfi_step.proofs.hostile.add_zeros.Goals as goal

pub loop-k-preserved : goal.loop-k-preserved
loop-k-preserved c =
    let grown = rw c.in-Some.ensures.value at c.in_ok-push-in-Some.ensures.items in
    more_zeros c.loop-k.zeros.items _ c.args.address c.loop-k.k c.loop-k-test.true grown ∙ c.loop-k.invariant

pub returns : goal.returns
returns c = sym (all_zeros c.loop-k.zeros.items c.args.address c.loop-k.k c.loop-k-test.false) ∙ c.loop-k.invariant
