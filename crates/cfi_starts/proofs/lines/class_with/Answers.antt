use Rattle.cfi_starts.proofs.Targets.{found_rises}
use Rattle.cfi_starts.proofs.lines.class_with.Goals as goal

pub returns-clause-rising : goal.returns-clause-rising
returns-clause-rising c = found_rises _ _ _ c.requires.targets c.found_class.ensures
