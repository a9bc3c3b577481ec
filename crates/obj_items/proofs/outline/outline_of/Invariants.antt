use Rattle.std.proofs.Common.{◌≡◌}
use Rattle.obj_items.proofs.Prelude.{joined, section_items}
use Rattle.obj_items.proofs.outline.outline_of.Given as goal

abbrev pub invariant-loop-k : goal.invariant-loop-k
invariant-loop-k l = l.items.items ≡ joined (section_items l.input) l.k
