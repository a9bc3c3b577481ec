use Rattle.cfi_unit.proofs.ShapedUnits.{counted, shape_among, unit_opens}
use Rattle.cfi_unit.proofs.shape_law.units_shaped.Goals as goal

pub returns : goal.returns
returns c = λ unit at fits. (shape_among unit at fits, counted unit at fits, unit_opens unit at fits)
