use Rattle.obj_link.proofs.Prelude.{symbol_behind, symbol_said_in}
use Rattle.obj_link.proofs.Together.{grown, grown_none}
use Rattle.obj_link.proofs.symbols.push_symbols.Goals as goal

pub loop-number-init : goal.loop-number-init
loop-number-init c = grown_none (symbol_behind c.args.sections) (symbol_said_in c.args.object.now) c.args.symbols.now.items

pub loop-number-preserved : goal.loop-number-preserved
loop-number-preserved c =
    grown (symbol_behind c.args.sections) (symbol_said_in c.args.object.now) c.loop-number.number c.args.symbols.now.items _ _ _ c.loop-number.invariant
    c.symbol.ensures c.in_ok-push.ensures.items
