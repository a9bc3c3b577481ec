use Rattle.obj_input.proofs.Standing.{bounds_order, bounds_part}
use Rattle.obj_input.proofs.search.bounds.Goals as goal

pub returns-clause-order : goal.returns-clause-order
returns-clause-order c =
    bounds_order c.args.uses.now c.args.offset _ _ c.count_below.ensures.bound c.count_to.ensures.bound c.count_below.ensures.below
    c.count_below.ensures.from c.count_to.ensures.to c.count_to.ensures.after

pub returns-clause-part : goal.returns-clause-part
returns-clause-part c =
    bounds_part c.args.uses.now c.args.offset _ _ c.count_below.ensures.bound c.count_to.ensures.bound c.count_below.ensures.below
    c.count_below.ensures.from c.count_to.ensures.to c.count_to.ensures.after
