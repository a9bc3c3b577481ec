use Rattle.std.specs.List.{AllWithin}
use Rattle.obj_items.specs.Ranges.{IsSmallUse}
use Rattle.obj_items.proofs.ranges.uses_fit.Given as goal

abbrev pub invariant-loop-u : goal.invariant-loop-u
invariant-loop-u l = AllWithin IsSmallUse l.uses 0 l.u-index
