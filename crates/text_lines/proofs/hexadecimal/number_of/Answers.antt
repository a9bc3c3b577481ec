use Rattle.std.proofs.Common.{arith}
use Rattle.text_lines.proofs.Digits.{counted_more, counted_right, digit_at_most, sum_bound}
use Rattle.text_lines.proofs.hexadecimal.number_of.Goals as goal

pub loop-byte-preserved : goal.loop-byte-preserved
loop-byte-preserved c =
    rw c.digit_of.ensures (record {
      counted = counted_more c.args.case c.args.word.now c.loop-byte.byte-index c.loop-byte.number c.loop-byte-test.true c.loop-byte.invariant.counted;
      bound = sum_bound c.loop-byte.number _ c.loop-byte.byte-index c.loop-byte.invariant.bound (digit_at_most c.args.case _);
    })

pub returns : goal.returns
returns c =
    counted_right c.args.case c.args.word.now c.loop-byte.byte-index c.loop-byte.number (omega arith) (omega arith) c.loop-byte.invariant.counted
