use Rattle.std.proofs.Common.{sym, ◌∙◌}
use Rattle.least.proofs.Leasts.{least_begins, least_step}
use Rattle.least.proofs.numbers.least_below.Goals as goal

pub loop-index-init : goal.loop-index-init
loop-index-init g c = λ f computes. sym (least_begins f)

pub loop-index-preserved : goal.loop-index-preserved
loop-index-preserved g c =
    λ f computes.
    c.lesser-least.ensures
    ∙ least_step f c.loop-index.index _ _ (c.loop-index.invariant f computes) (computes c.loop-index.index _ c.loop-index-test.true c.given.ensures)
