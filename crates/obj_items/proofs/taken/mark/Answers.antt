use Rattle.std.proofs.Common.{sym, ◌∙◌}
use Rattle.obj_items.proofs.Marks.{marked, unmarked}
use Rattle.obj_items.proofs.taken.mark.Goals as goal

pub returns-in-Some-place_in-clause-marks : goal.returns-in-Some-place_in-clause-marks
returns-in-Some-place_in-clause-marks c =
    λ i below.
    rw c.in-Some.is
    (marked c.args.places.now c.requires.order c.args.marks.now.items c.requires.count c.in-Some.section c.in-Some.offset c.in-Some-place_in.k
    (sym c.in-Some-place_in.is ∙ c.place_in.ensures) i below)

pub returns-in_default-place_in-clause-marks : goal.returns-in_default-place_in-clause-marks
returns-in_default-place_in-clause-marks c =
    λ i below.
    rw c.in-Some.is
    (unmarked c.args.places.now c.args.marks.now.items c.in-Some.section c.in-Some.offset (sym c.in_default-place_in.is ∙ c.place_in.ensures) i below)
