use Rattle.std.proofs.Common.{◌≡◌, map, take}
use Rattle.cfi_layout.specs.Lengthening.{gap}
use Rattle.cfi_layout.proofs.reach.gaps.Given as goal

abbrev pub invariant-loop-branch : goal.invariant-loop-branch
invariant-loop-branch l = l.gaps.items ≡ map (gap l.starts) (take l.branch-index l.branches)
