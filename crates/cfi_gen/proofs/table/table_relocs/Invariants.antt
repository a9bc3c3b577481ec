use Rattle.std.proofs.Common.{◌≡◌, ◌-◌, ◌++◌}
use Rattle.cfi_gen.specs.Demo.{table_relocs}
use Rattle.cfi_gen.proofs.table.table_relocs.Given as goal

abbrev pub invariant-loop-i : goal.invariant-loop-i
invariant-loop-i l = l.relocs.items ++ table_relocs (l.count - l.i) l.i ≡ table_relocs l.count 0
