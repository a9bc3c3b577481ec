use Rattle.std.proofs.Common.{arith}
use Rattle.std.specs.Int.{w64}
use Rattle.rv_word.specs.Multiply.{whole}
use Rattle.rv_word.proofs.Products.{high_is, is_factor}
use Rattle.rv_word.proofs.multiply.mul_high.Goals as goal

pub returns : goal.returns
returns c =
    rw (c.wide.ensures, c.wide-2.ensures)
    (high_is (whole w64 c.args.a_signed c.args.a) (whole w64 c.args.b_signed c.args.b)
    (is_factor c.args.a_signed c.args.a (omega arith)) (is_factor c.args.b_signed c.args.b (omega arith)))
