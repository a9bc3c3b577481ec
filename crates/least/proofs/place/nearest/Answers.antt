use Rattle.std.proofs.Common.{◌≡◌, Some, refl, sym, ◌∙◌}
use Rattle.std.specs.Prelude.{slice_get}
use Rattle.std.proofs.lemmas.Option.{slice_get_read}
use Rattle.least.proofs.Nearests.{found_begins, found_step}
use Rattle.least.proofs.place.nearest.Goals as goal

pub loop-x-init : goal.loop-x-init
loop-x-init g c = λ f computes. sym (found_begins _ f c.args.items.now)

pub loop-x-preserved : goal.loop-x-preserved
loop-x-preserved g c =
    let at : slice_get c.args.items.now c.loop-x.x-index ≡ Some c.x-item.result = slice_get_read _ _ _ _ refl c.loop-x-test.true c.x-item.is in
    λ f computes.
    c.nearer-least.ensures
    ∙ found_step _ f c.args.items.now c.loop-x.x-index _ _ _ at (c.loop-x.invariant f computes) (computes c.loop-x.x-index _ _ at c.given.ensures)
