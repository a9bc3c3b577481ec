use Rattle.cfi_unit.proofs.ShapesUsed as used
use Rattle.cfi_unit.proofs.shape_law.shapes_used.Goals as goal

pub returns : goal.returns
returns c = used.shapes_used
