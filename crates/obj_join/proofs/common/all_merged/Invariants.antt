use Rattle.std.proofs.Common.{◌≡◌, length}
use Rattle.obj_input.specs.Listed.{listed}
use Rattle.obj_join.specs.Numbers.{by, merged_below}
use Rattle.obj_join.proofs.common.all_merged.Given as goal

abbrev pub invariant-loop-number : goal.invariant-loop-number
invariant-loop-number l = l.blocks.items ≡ listed (merged_below (by l.numbers) l.symbols l.number) (length l.symbols)
