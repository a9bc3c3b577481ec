use Rattle.std.proofs.Common.{◌∙◌}
use Rattle.obj_join.proofs.Functions.{next_func, no_func}
use Rattle.obj_join.proofs.function.funcs.Goals as goal

pub loop-symbol-init : goal.loop-symbol-init
loop-symbol-init c = c.new-funcs.ensures.items ∙ no_func c.args.symbols.now

pub loop-symbol-preserved : goal.loop-symbol-preserved
loop-symbol-preserved c =
    next_func c.args.symbols.now c.loop-symbol.symbol-index c.symbol-item.result _ _ c.loop-symbol-test.true c.symbol-item.is c.loop-symbol.invariant
    c.in_ok-push_func.ensures
