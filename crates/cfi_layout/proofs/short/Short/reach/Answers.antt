use Rattle.std.proofs.Common.{refl}
use Rattle.std.proofs.lemmas.Bool.{lt-ltb, le-ltb}
use Rattle.cfi_layout.proofs.short.Short.reach.Goals as goal

pub returns-then-self : goal.returns-then-self
returns-then-self c = rw (lt-ltb c.args.self.now.at c.args.self.now.target c.if-self.true) refl

pub returns-else-self : goal.returns-else-self
returns-else-self c = rw (le-ltb c.args.self.now.at c.args.self.now.target c.if-self.false) refl
