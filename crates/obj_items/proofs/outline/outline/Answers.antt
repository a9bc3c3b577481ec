use Rattle.std.proofs.Common.{List, subst, sym}
use Rattle.obj_items.proofs.Prelude.{Item, AreInOrder}
use Rattle.obj_items.proofs.InOrder.{outline_in_order}
use Rattle.obj_items.proofs.outline.outline.Goals as goal

pub returns-clause-order : goal.returns-clause-order
returns-clause-order c = subst (λ (items : List Item). AreInOrder items) (sym c.in_ok-items.ensures) (outline_in_order c.args.input.now)
