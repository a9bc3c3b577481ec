use Rattle.std.proofs.Common.{◌∙◌, sym}
use Rattle.cfi_writer.proofs.ClassLabels.{found_at, found_nowhere}
use Rattle.cfi_writer.proofs.labels.label_at.Goals as goal

pub returns-in-Some-clause-value : goal.returns-in-Some-clause-value
returns-in-Some-clause-value c =
    c.label_with.ensures.value ∙ found_at c.args.labels.now c.args.side.now.classes c.args.place c.in-Some.class (sym c.in-Some.ensures)

pub returns-in-None-clause-value : goal.returns-in-None-clause-value
returns-in-None-clause-value c = found_nowhere c.args.labels.now c.args.side.now.classes c.args.place (sym c.in-None.ensures)
