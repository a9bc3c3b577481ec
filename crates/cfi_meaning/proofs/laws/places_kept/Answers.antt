use Rattle.cfi_meaning.proofs.PlacesKept as proof
use Rattle.cfi_meaning.proofs.laws.places_kept.Goals as goal

pub returns : goal.returns
returns c = proof.places_kept
