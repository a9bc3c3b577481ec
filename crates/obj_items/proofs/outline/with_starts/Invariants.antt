use Rattle.std.proofs.Common.{◌≡◌, ◌++◌}
use Rattle.obj_items.proofs.Prelude.{joined, start_item}
use Rattle.obj_items.proofs.outline.with_starts.Given as goal

abbrev pub invariant-loop-index : goal.invariant-loop-index
invariant-loop-index l = l.items.items ≡ l.fn.items.items ++ joined (start_item l.section l.k) l.index
