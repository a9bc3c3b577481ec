use Rattle.std.proofs.Common.{◌≡◌}
use Rattle.least.specs.Nearest.{joined}
use Rattle.obj_join.specs.SaidInput.{func_of}
use Rattle.obj_join.proofs.function.funcs.Given as goal

abbrev pub invariant-loop-symbol : goal.invariant-loop-symbol
invariant-loop-symbol l = l.funcs.items ≡ joined (func_of l.symbols) l.symbol-index
