use Rattle.cfi_map.proofs.PlacingLaws as proof
use Rattle.cfi_map.proofs.laws.placements_fit.Goals as goal

pub returns : goal.returns
returns c = proof.placements_fit
