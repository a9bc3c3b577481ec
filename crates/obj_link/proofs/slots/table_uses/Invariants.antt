use Rattle.std.proofs.Common.{◌≡◌, map}
use Rattle.obj_link.proofs.Prelude.{listed, use_behind, by, table_uses, use_said_at}
use Rattle.obj_link.proofs.slots.table_uses.Given as goal

abbrev pub invariant-loop-j : goal.invariant-loop-j
invariant-loop-j l = l.uses.items ≡ table_uses (by l.numbers) (map (use_behind l.symbols) (listed (use_said_at l.object l.k) l.j))
