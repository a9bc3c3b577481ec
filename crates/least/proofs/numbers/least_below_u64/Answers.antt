use Rattle.std.proofs.Common.{sym, ◌∙◌}
use Rattle.least.proofs.Leasts.{least_begins, least_step}
use Rattle.least.proofs.numbers.least_below_u64.Goals as goal

pub loop-number-init : goal.loop-number-init
loop-number-init g c = λ f computes. sym (least_begins f)

pub loop-number-preserved : goal.loop-number-preserved
loop-number-preserved g c =
    λ f computes.
    c.lesser-least.ensures
    ∙ least_step f c.loop-number.number _ _ (c.loop-number.invariant f computes) (computes c.loop-number.number _ c.loop-number-test.true c.given.ensures)
