use Rattle.cfi_walk.proofs.Sites.{sites_kept}
use Rattle.cfi_walk.proofs.laws.step_keeps_sites.Goals as goal

pub returns : goal.returns
returns c = sites_kept
