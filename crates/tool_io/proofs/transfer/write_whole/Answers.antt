use Rattle.std.proofs.Common.{arith}
use Rattle.tool_io.proofs.Transfers.{written_more}
use Rattle.tool_io.proofs.transfer.write_whole.Goals as goal

pub loop-done-preserved : goal.loop-done-preserved
loop-done-preserved g c = record {
  within = search arith;
  given = written_more _ _ _ c.args.bytes.now c.loop-done.done c.in-Ok.count c.loop-done.invariant.given c.in-Ok.ensures.bytes;
}
