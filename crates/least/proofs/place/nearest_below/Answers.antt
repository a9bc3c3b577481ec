use Rattle.std.proofs.Common.{◌≡◌, sym, ap, ◌∙◌, arith}
use Rattle.least.specs.Nearest.{nearest_below}
use Rattle.least.proofs.Nearests.{near_begins, near_step}
use Rattle.least.proofs.place.nearest_below.Goals as goal

pub loop-index-init : goal.loop-index-init
loop-index-init g c = λ f computes. sym (near_begins _ f)

pub loop-index-preserved : goal.loop-index-preserved
loop-index-preserved g c =
    λ f computes.
    c.nearer-least.ensures
    ∙ near_step _ f c.loop-index.index _ _ (c.loop-index.invariant f computes) (computes c.loop-index.index _ c.loop-index-test.true c.given.ensures)

pub returns : goal.returns
returns g c =
    λ f computes.
    let done : c.loop-index.index ≡ c.args.n = omega arith in
    c.loop-index.invariant f computes ∙ ap (nearest_below _ f) done
