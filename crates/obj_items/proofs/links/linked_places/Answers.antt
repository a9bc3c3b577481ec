use Rattle.std.proofs.Common.{length, List, ap, arith}
use Rattle.obj_items.proofs.Prelude.{Item, outline}
use Rattle.obj_items.proofs.Linking.{all_linked, begins_linked}
use Rattle.obj_items.proofs.links.linked_places.Goals as goal

pub loop-j-init : goal.loop-j-init
loop-j-init c = begins_linked c.args.input.now c.args.places.items c.requires.places

pub returns-clause-value : goal.returns-clause-value
returns-clause-value c =
    let size = ap (λ (items : List Item). length items) c.requires.places in
    all_linked c.args.input.now (outline c.args.input.now) c.loop-j.places.items c.loop-j.j c.loop-j.invariant (omega (arith, c.loop-j.invariant.size))

pub returns-clause-found : goal.returns-clause-found
returns-clause-found c = c.loop-j.invariant.found

pub returns-clause-order : goal.returns-clause-order
returns-clause-order c = c.loop-j.invariant.order
