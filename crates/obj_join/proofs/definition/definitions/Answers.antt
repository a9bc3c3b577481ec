use Rattle.obj_join.specs.Stands.{definition}
use Rattle.obj_join.specs.Numbers.{by}
use Rattle.obj_join.proofs.Listing.{listed_next}
use Rattle.obj_join.proofs.definition.definitions.Goals as goal

pub loop-number-preserved : goal.loop-number-preserved
unfolding definition
loop-number-preserved c =
    listed_next (definition (by c.args.numbers.now) c.args.symbols.now) c.loop-number.number-index _ _ _ c.loop-number.invariant
    (c.definition_of.ensures (by c.args.numbers.now) c.requires.places) c.in_ok-push.ensures.items
