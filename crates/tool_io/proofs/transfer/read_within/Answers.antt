use Rattle.std.proofs.Common.{◌-◌, arith}
use Rattle.tool_io.proofs.Transfers.{taken_more}
use Rattle.tool_io.proofs.transfer.read_within.Goals as goal

pub returns-in-Ok-clause-taken : goal.returns-in-Ok-clause-taken
returns-in-Ok-clause-taken g c =
    taken_more _ _ _ _ _ _ _ (c.args.limit - c.len.result) _ _ (omega (arith, c.len.ensures)) (omega (arith, c.min.ensures)) c.read.auto.buf
    c.in-Ok.ensures.bound.0 c.loop-bytes.invariant.kept c.in-Ok.ensures.bytes.0

pub returns-in_err-extend_from_slice-in-Ok-2-clause-taken : goal.returns-in_err-extend_from_slice-in-Ok-2-clause-taken
returns-in_err-extend_from_slice-in-Ok-2-clause-taken g c =
    taken_more _ _ _ _ _ _ _ (c.args.limit - c.len.result) _ _ (omega (arith, c.len.ensures)) (omega (arith, c.min.ensures)) c.read.auto.buf
    c.in-Ok-2.ensures.bound.0 c.loop-bytes.invariant.kept c.in-Ok-2.ensures.bytes.0
