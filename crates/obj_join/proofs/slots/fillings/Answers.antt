use Rattle.std.proofs.Common.{◌∙◌, ◌*◌, pos, sym, ap}
use Rattle.obj_input.specs.declared.parts.Definition.{Definition}
use Rattle.obj_join.specs.Numbers.{filling_of}
use Rattle.obj_join.proofs.Listing.{listed_next, listed_none}
use Rattle.obj_join.proofs.slots.fillings.Goals as goal

pub loop-slot-init : goal.loop-slot-init
loop-slot-init c = λ resolve same. c.new-uses.ensures.items ∙ sym (listed_none (filling_of resolve c.args.symbols.now c.args.slots.now))

pub loop-slot-preserved : goal.loop-slot-preserved
loop-slot-preserved c = λ resolve same.
    listed_next (filling_of resolve c.args.symbols.now c.args.slots.now) c.loop-slot.slot _ _ _ (c.loop-slot.invariant resolve same)
    (c.in_ok-filling.ensures
    ∙ ap (λ (d : Definition). record { offset = 8 * c.loop-slot.slot; number = 2; addend = pos 0; definition = d }) (c.definition_of-definition.ensures resolve same))
    c.in_ok-push.ensures.items
