use Rattle.obj_join.proofs.Noted.{are_firsts}
use Rattle.obj_join.proofs.definers.Definers.of.Goals as goal

pub invariant_of-result : goal.invariant_of-result
invariant_of-result c =
    are_firsts c.args.symbols.now c.args.names.now c.requires _ _ _ _ c.in_ok-strong.ensures c.in_ok-common.ensures c.in_ok-weak.ensures c.in_ok-private.ensures
