use Rattle.std.proofs.Common.{◌-◌, Bool, get_or, if◌then◌else◌, ap, ◌∙◌, arith}
use Rattle.cfi_layout.specs.Starts.{flag}
use Rattle.cfi_layout.proofs.Flags.{flag_read}
use Rattle.cfi_layout.proofs.Loops.{sizes_more, sizes_end}
use Rattle.cfi_layout.proofs.starts.sizes_of.Goals as goal

pub loop-k-preserved : goal.loop-k-preserved
loop-k-preserved c =
    let size = get_or c.args.sizes.now c.loop-k.k 0 in
    let same = ap (λ (b : Bool). if b then size else size - 4) (flag_read c.args.long.now c.loop-k.k (omega arith)) in
    rw c.in_ok-push.ensures.items (sizes_more (flag c.args.long.now) c.loop-k.k c.args.sizes.now c.loop-k.left.items _ c.size_of.result (omega arith) (c.size_of.ensures ∙ same) c.loop-k.invariant)

pub returns : goal.returns
returns c = sizes_end (flag c.args.long.now) c.loop-k.k c.args.sizes.now c.loop-k.left.items _ (omega arith) c.loop-k.invariant
