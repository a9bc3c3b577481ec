use Rattle.std.proofs.Common.{arith, sym}
use Rattle.obj_items.proofs.Pushed.{pair_inside}
use Rattle.obj_items.proofs.outline.own_word.Goals as goal

pub overflow_add-index : goal.overflow_add-index
overflow_add-index c = let inside = pair_inside c.args.section.now c.args.index (sym c.if-is_pair.ensures) in omega arith

pub word-requires-clause-below : goal.word-requires-clause-below
word-requires-clause-below c = pair_inside c.args.section.now c.args.index (sym c.if-is_pair.ensures)
