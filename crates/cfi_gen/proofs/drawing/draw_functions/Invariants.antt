use Rattle.std.proofs.Common.{◌≡◌, ◌-◌, ◌++◌}
use Rattle.cfi_gen.specs.Drawing.{functions_from}
use Rattle.cfi_gen.proofs.drawing.draw_functions.Given as goal

abbrev pub invariant-loop-i : goal.invariant-loop-i
invariant-loop-i l = l.functions.items ++ functions_from (l.count - l.i) l.i l.generator.state ≡ functions_from l.count 0 l.fn.number
