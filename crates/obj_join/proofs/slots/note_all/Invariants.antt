use Rattle.std.proofs.Common.{◌≡◌, take}
use Rattle.std.specs.Prelude.{fold}
use Rattle.obj_join.specs.Table.{with_symbol}
use Rattle.obj_join.proofs.slots.note_all.Given as goal

abbrev pub invariant-loop-symbol : goal.invariant-loop-symbol
invariant-loop-symbol l = l.slots.keys ≡ fold with_symbol l.fn.slots.keys (take l.symbol-index l.symbols)
