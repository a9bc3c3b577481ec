use Rattle.std.proofs.Common.{arith}
use Rattle.cfi_starts.proofs.Laid.{laid_with}
use Rattle.cfi_starts.proofs.starts.Starts.units_from.Goals as goal

pub returns-clause-low : goal.returns-clause-low
returns-clause-low c = let laid = laid_with c.self.inside.listing.versions in omega (arith, laid.low, c.units_start.ensures)

pub returns-clause-high : goal.returns-clause-high
returns-clause-high c = let laid = laid_with c.self.inside.listing.versions in omega (arith, laid.high, c.units_start.ensures)

pub returns-clause-round : goal.returns-clause-round
returns-clause-round c = let laid = laid_with c.self.inside.listing.versions in omega (arith, laid.round, c.units_start.ensures)
