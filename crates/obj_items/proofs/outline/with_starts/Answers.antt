use Rattle.obj_items.specs.Outline.{start_item}
use Rattle.obj_items.proofs.Pushed.{pushed_begins, pushed_next}
use Rattle.obj_items.proofs.outline.with_starts.Goals as goal

pub loop-index-init : goal.loop-index-init
loop-index-init c = pushed_begins (start_item c.args.section.now c.args.k) c.args.items.items

pub loop-index-preserved : goal.loop-index-preserved
loop-index-preserved c =
    pushed_next (start_item c.args.section.now c.args.k) c.loop-index.index c.args.items.items _ _ c.loop-index.invariant c.in_ok-items.ensures
