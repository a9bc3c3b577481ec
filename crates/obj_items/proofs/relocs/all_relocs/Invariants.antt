use Rattle.std.proofs.Common.{◌≡◌, length}
use Rattle.obj_items.proofs.Prelude.{joined, listed_relocs}
use Rattle.obj_items.proofs.relocs.all_relocs.Given as goal

abbrev pub invariant-loop-section : goal.invariant-loop-section
invariant-loop-section l = (l.k ≡ length l.yielded) × (l.relocs.items ≡ joined (listed_relocs l.input l.places l.yielded) (length l.yielded))
