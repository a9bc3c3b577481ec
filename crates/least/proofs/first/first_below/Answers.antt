use Rattle.std.proofs.Common.{arith}
use Rattle.least.proofs.Firsts.{computed_found, computed_none}
use Rattle.least.proofs.first.first_below.Goals as goal

pub returns-then-test-clause-first : goal.returns-then-test-clause-first
returns-then-test-clause-first g c = computed_found _ c.args.n c.loop-index.index c.loop-index.invariant _ c.loop-index-test.true c.test.ensures c.if-test.true

pub returns-clause-first : goal.returns-clause-first
returns-clause-first g c = computed_none _ c.args.n c.loop-index.index c.loop-index.invariant (omega arith)
