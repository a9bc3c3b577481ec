use Rattle.std.proofs.Common.{◌≡◌}
use Rattle.cfi_map.specs.Shorts.{shorts_below}
use Rattle.cfi_map.proofs.shorts.shorts.Given as goal

abbrev pub invariant-loop-k : goal.invariant-loop-k
invariant-loop-k l = l.shorts.items ≡ shorts_below l.leads l.k
