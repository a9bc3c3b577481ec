use Rattle.std.proofs.Common.{◌≡◌, ◌+◌, ◌-◌, ◌++◌}
use Rattle.cfi_step.specs.Hostile.{zeros_from}
use Rattle.cfi_step.proofs.hostile.add_zeros.Given as goal

abbrev pub invariant-loop-k : goal.invariant-loop-k
invariant-loop-k l = l.zeros.items ++ zeros_from (l.address + l.k) (8 - l.k) ≡ l.initial.zeros.items ++ zeros_from l.address 8
