use Rattle.obj_items.proofs.Prelude.{outline, AreLinkedTo}
use Rattle.obj_items.proofs.links.linked_places.Given as goal

abbrev pub invariant-loop-j : goal.invariant-loop-j
invariant-loop-j l = AreLinkedTo l.input (outline l.input) l.places.items l.j
