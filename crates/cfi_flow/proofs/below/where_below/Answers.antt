use Rattle.cfi_flow.proofs.Listing.{below_begins, below_member, below_passed}
use Rattle.cfi_flow.proofs.below.where_below.Goals as goal
use Rattle.cfi_flow.proofs.below.where_below.Goals.{then-test+in_ok-push, else-test}
use Rattle.std.proofs.Common.{sym, ◌∙◌}

pub loop-k-init : goal.loop-k-init
loop-k-init g c = λ p computes. below_begins p _ c.new-found.ensures.items

pub loop-k-preserved : goal.loop-k-preserved
loop-k-preserved g c = λ p computes.
    let so_far = c.loop-k.invariant p computes in
    let is = computes c.loop-k.k c.test.result c.loop-k-test.true c.test.ensures in
    elim c.if-test.branch [
      | then-test+in_ok-push w ↦ rw (w.found-is, w.in_ok-push.ensures.items) (below_member p c.loop-k.k _ so_far (sym is ∙ w.if-test.true))
      | else-test w ↦ rw w.found-is (below_passed p c.loop-k.k _ so_far (sym is ∙ w.if-test.false))
    ]
