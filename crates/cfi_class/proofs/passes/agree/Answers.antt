use Rattle.cfi_class.proofs.Agreeing.{agree_more, agree_all}
use Rattle.cfi_class.proofs.passes.agree.Goals as goal

pub loop-target-preserved : goal.loop-target-preserved
loop-target-preserved c =
    agree_more _ _ _ _ _ _ c.loop-target.invariant c.number_of.ensures.value c.if-number_of-number.false

pub returns : goal.returns
returns c =
    agree_all _ _ _ _ _ c.loop-target-test.false c.requires.each c.requires.in_range c.loop-target.invariant
