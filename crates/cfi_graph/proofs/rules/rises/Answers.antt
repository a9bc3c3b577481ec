use Rattle.cfi_graph.proofs.Rising.{rising_end}
use Rattle.cfi_graph.proofs.rules.rises.Goals as goal

pub returns : goal.returns
returns c = rising_end c.args.numbers.now c.loop-i.i c.loop-i-test.false c.loop-i.invariant
