use Rattle.cfi_unit.proofs.Events as events
use Rattle.cfi_unit.proofs.step_law.unit_events.Goals as goal

pub returns : goal.returns
returns c = events.unit_events
