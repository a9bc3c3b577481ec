use Rattle.std.proofs.Common.{subst}
use Rattle.cfi_flow.specs.Raw.{IsThere}
use Rattle.cfi_flow.proofs.Keeping.{there}
use Rattle.cfi_flow.proofs.raw.Raw.places.Goals as goal

pub returns-clause-there : goal.returns-clause-there
returns-clause-there c = subst IsThere c.self.view_is (there c.self.inside.drawing c.self.inside.calls c.self.invariant)
