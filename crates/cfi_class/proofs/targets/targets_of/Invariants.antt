use Rattle.std.proofs.Common.{◌↔◌, ℕ}
use Rattle.std.specs.List.{Contains}
use Rattle.cfi_class.proofs.Sets.{IsInFirst}
use Rattle.cfi_class.proofs.targets.targets_of.Given as goal

abbrev pub invariant-loop-k : goal.invariant-loop-k
invariant-loop-k l = (a : ℕ) → Contains l.targets.items a ↔ IsInFirst l.sets l.k a
