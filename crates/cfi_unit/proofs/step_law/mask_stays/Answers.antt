use Rattle.cfi_unit.proofs.MaskKept as mask_kept
use Rattle.cfi_unit.proofs.step_law.mask_stays.Goals as goal

pub returns : goal.returns
returns c = mask_kept.mask_stays
