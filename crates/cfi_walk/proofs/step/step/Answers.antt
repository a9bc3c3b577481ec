use Rattle.cfi_walk.proofs.step.step.Goals as goal

pub returns-in-Opening : goal.returns-in-Opening
returns-in-Opening c = rw c.in-Opening.is c.opened.ensures
