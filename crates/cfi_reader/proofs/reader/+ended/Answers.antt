use Rattle.std.proofs.Common.{arith}
use Rattle.cfi_reader.specs.Nodes.{row_in}
use Rattle.cfi_reader.proofs.Followed.{ended_else, ended_none, ended_one, later}
use Rattle.cfi_reader.proofs.reader.+ended.Goals as goal

pub ended-requires : goal.ended-requires
ended-requires t c =
    let l = later c.args.node (row_in c.row_at.result.now) c.in-Try.other c.row_at.ensures c.in-Try.is in
    (omega arith, λ e. omega arith)

pub returns-in-Try : goal.returns-in-Try
returns-in-Try t c = ended_else c.args.node (row_in c.row_at.result.now) c.in-Try.other c.row_at.ensures c.in-Try.is c.ended.result c.ended.ensures

pub returns-in-Ended : goal.returns-in-Ended
returns-in-Ended t c = ended_one c.args.node (row_in c.row_at.result.now) c.in-Ended.end c.row_at.ensures c.in-Ended.is

pub returns-in-Stuck : goal.returns-in-Stuck
returns-in-Stuck t c = ended_none c.args.node (row_in c.row_at.result.now) c.row_at.ensures c.in-Stuck.is
