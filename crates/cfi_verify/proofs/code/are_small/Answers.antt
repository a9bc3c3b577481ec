use Rattle.std.proofs.Common.{arith}
use Rattle.cfi_verify.proofs.code.are_small.Goals as goal

pub returns : goal.returns
returns c = λ k. omega (arith, c.type_inv.bytes k)
