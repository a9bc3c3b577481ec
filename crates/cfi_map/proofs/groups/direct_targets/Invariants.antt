use Rattle.cfi_map.proofs.DirectTargets.{AreMarked}
use Rattle.cfi_map.proofs.groups.direct_targets.Given as goal

abbrev pub invariant-loop-k : goal.invariant-loop-k
invariant-loop-k l = AreMarked l.items l.k l.flags.items
