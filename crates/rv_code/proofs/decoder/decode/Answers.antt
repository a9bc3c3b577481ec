use Rattle.std.proofs.Common.{arith}
use Rattle.rv_code.proofs.Inverse.{IfSome-decoded}
use Rattle.rv_code.proofs.decoder.decode.Goals as goal

pub returns-clause-spelled : goal.returns-clause-spelled
returns-clause-spelled c = IfSome-decoded c.args.word c.by_opcode.result (omega arith) c.by_opcode.ensures
