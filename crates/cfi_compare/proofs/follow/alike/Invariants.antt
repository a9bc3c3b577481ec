use Rattle.std.proofs.Common.{◌-◌, length}
use Rattle.cfi_compare.specs.Followed.{Agree}
use Rattle.cfi_compare.proofs.follow.alike.Given as goal

abbrev pub invariant-loop-index : goal.invariant-loop-index
invariant-loop-index l = Agree l.index l.ours l.theirs

abbrev pub decreases-loop-index : goal.decreases-loop-index
decreases-loop-index l = length l.ours - l.index
