use Rattle.obj_join.proofs.Stood.{named_is}
use Rattle.obj_join.proofs.name.named.Goals as goal

pub returns : goal.returns
returns c = λ resolve same.
    named_is resolve c.args.symbols.now c.args.definitions.now c.args.number _ _ _ c.named.ensures c.symbol.ensures same c.requires.below
