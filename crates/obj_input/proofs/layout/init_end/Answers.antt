use Rattle.std.proofs.Common.{arith, ◌∙◌}
use Rattle.obj_input.specs.Input.{is_data_sort}
use Rattle.rv_image.specs.MemoryMap.{DATA_START}
use Rattle.obj_input.proofs.Reach.{reach_begins, reach_next}
use Rattle.obj_input.proofs.layout.init_end.Goals as goal

pub loop-k-init : goal.loop-k-init
loop-k-init c = (c.from-at.ensures ∙ reach_begins c.args.input.now is_data_sort DATA_START, omega arith)

pub loop-k-preserved : goal.loop-k-preserved
loop-k-preserved c =
    (reach_next c.args.input.now is_data_sort DATA_START c.loop-k.k _ _ _ _ c.loop-k.invariant.0 c.section-section.ensures c.is_data.ensures c.after_if-at.ensures.value, omega arith)
