use Rattle.obj_join.specs.Symbols.{no_symbol}
use Rattle.obj_join.proofs.Stood.{as_common}
use Rattle.obj_join.proofs.definition.definition_of.Goals as goal

pub returns-in-AsCommon : goal.returns-in-AsCommon
returns-in-AsCommon c = λ resolve same.
    let found = c.in-Some.ensures.lookup.3 in
    as_common resolve c.args.symbols.now c.args.places.now c.args.number _ c.in-Some.symbol.now same found.0 (found.1 no_symbol) c.in-AsCommon.ensures
