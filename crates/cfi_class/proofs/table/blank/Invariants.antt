use Rattle.std.proofs.Common.{None, ℕ}
use Rattle.cfi_class.specs.Tables.{IsTable}
use Rattle.cfi_class.proofs.table.blank.Given as goal

abbrev pub invariant-loop-k : goal.invariant-loop-k
invariant-loop-k l = IsTable (λ (k : ℕ). None) l._k l.table.items
