use Rattle.std.proofs.Common.{arith}
use Rattle.cfi_starts.proofs.Laid.{laid_with}
use Rattle.cfi_starts.proofs.starts.Starts.closing.Goals as goal

pub returns : goal.returns
returns c = let laid = laid_with c.args.self.now.listing.versions in omega (arith, laid.call, laid.closing, laid.low, c.units_from.ensures.at)
