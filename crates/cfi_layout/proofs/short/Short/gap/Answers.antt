use Rattle.std.proofs.Common.{arith}
use Rattle.std.proofs.lemmas.Bool.{lt-ltb, le-ltb}
use Rattle.cfi_layout.proofs.short.Short.gap.Goals as goal

pub returns-then-self : goal.returns-then-self
returns-then-self c = rw (lt-ltb c.args.self.now.at c.args.self.now.target c.if-self.true) (omega (arith, c.saturating_sub.ensures))

pub returns-else-self : goal.returns-else-self
returns-else-self c = rw (le-ltb c.args.self.now.at c.args.self.now.target c.if-self.false) (omega (arith, c.saturating_sub-else-self.ensures))
