use Rattle.std.proofs.Common.{arith, ◌∙◌}
use Rattle.obj_input.specs.Input.{is_zeros_sort}
use Rattle.obj_input.specs.DataLayout.{init_end}
use Rattle.obj_input.proofs.Reach.{reach_begins, reach_next}
use Rattle.obj_input.proofs.layout.zeros_end.Goals as goal

pub loop-k-init : goal.loop-k-init
loop-k-init c = (c.requires.start ∙ reach_begins c.args.input.now is_zeros_sort (init_end c.args.input.now), omega arith)

pub loop-k-preserved : goal.loop-k-preserved
loop-k-preserved c =
    (reach_next c.args.input.now is_zeros_sort (init_end c.args.input.now) c.loop-k.k _ _ _ _ c.loop-k.invariant.0 c.section-section.ensures c.is_zeros.ensures c.after_if-at.ensures.value, omega arith)
