use Rattle.std.proofs.Common.{◌∙◌}
use Rattle.cfi_step.proofs.Changes.{shared_next, made_next, allowed_next}
use Rattle.cfi_step.proofs.running.Running.change.Goals as goal

pub loop-change-preserved : goal.loop-change-preserved
loop-change-preserved c =
    let xs = c.args.changes.now in
    let i = c.loop-change.change-index in
    let d = c.change-item.result in
    let below = c.loop-change-test.true in
    let item = c.change-item.is in
    let one = rw item at c.make.ensures.allowed in
    let shared = rw item at c.in_ok-make.ensures.shared in
    let made = rw item at c.in_ok-make.ensures.made in
    record {
      harts = c.in_ok-make.ensures.harts ∙ c.loop-change.invariant.harts;
      shared = shared_next xs i d below _ _ shared ∙ c.loop-change.invariant.shared;
      made = made_next xs i d below (λ x. (c.args.step, x)) _ _ made ∙ c.loop-change.invariant.made;
      allowed = λ later. c.loop-change.invariant.allowed (allowed_next xs i d below one later);
      count = c.make.ensures.count ∙ c.loop-change.invariant.count;
      version = c.make.ensures.version ∙ c.loop-change.invariant.version;
      taken = c.make.ensures.taken ∙ c.loop-change.invariant.taken;
      trails = c.make.ensures.trails ∙ c.loop-change.invariant.trails;
    }
