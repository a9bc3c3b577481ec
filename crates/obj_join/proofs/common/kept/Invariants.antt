use Rattle.std.proofs.Common.{◌≡◌, map}
use Rattle.obj_join.specs.Blocks.{block_of, blocks_below}
use Rattle.obj_join.specs.Numbers.{by}
use Rattle.obj_join.proofs.common.kept.Given as goal

abbrev pub invariant-loop-number : goal.invariant-loop-number
invariant-loop-number l = l.blocks.items ≡ map (block_of (by l.numbers) l.symbols) (blocks_below (by l.numbers) l.symbols l.number)
