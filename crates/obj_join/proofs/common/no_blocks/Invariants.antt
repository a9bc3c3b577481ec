use Rattle.std.proofs.Common.{◌≡◌, ℕ}
use Rattle.obj_input.specs.Listed.{listed}
use Rattle.obj_join.specs.Numbers.{merged_below}
use Rattle.obj_join.proofs.common.no_blocks.Given as goal

abbrev pub invariant-loop-symbol : goal.invariant-loop-symbol
invariant-loop-symbol l = (resolve : ℕ → ℕ) → l.blocks.items ≡ listed (merged_below resolve l.symbols 0) l._symbol-index
