use Rattle.std.proofs.Common.{ℕ, ◌<◌, length, arith}
use Rattle.std.proofs.lemmas.List.Sums.{sum_by-drop_more}
use Rattle.cfi_layout.proofs.Loops.{starts_more, starts_end}
use Rattle.cfi_layout.proofs.starts.starts_of.Goals as goal

pub loop-size-preserved : goal.loop-size-preserved
loop-size-preserved c =
    let lt : c.loop-size.size-index < length c.args.sizes.now = c.loop-size-test.true in
    record {
      so_far = rw (c.in_ok-push.ensures.items, c.from-at.ensures) (starts_more c.loop-size.at c.loop-size.size-index c.args.sizes.now c.loop-size.starts.items _ lt c.loop-size.invariant.so_far);
      left = omega (arith, c.loop-size.invariant.left, c.from-at.ensures, sum_by-drop_more (λ (x : ℕ). x) c.args.sizes.now c.loop-size.size-index 0 lt);
    }

pub returns : goal.returns
returns c =
    rw c.in_ok-push-2.ensures.items (starts_end c.loop-size.at c.loop-size.size-index c.args.sizes.now c.loop-size.starts.items _ (omega arith) c.loop-size.invariant.so_far)
