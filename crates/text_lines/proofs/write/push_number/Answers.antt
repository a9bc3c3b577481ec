use Rattle.std.proofs.Common.{arith, [], ◌∷◌, ◌∙◌, ap}
use Rattle.std.proofs.lemmas.List.{append_assoc}
use Rattle.std.proofs.lemmas.Nat.{and_mask}
use Rattle.text_lines.specs.Hex.{hex_digit}
use Rattle.text_lines.proofs.DigitsOut.{next_digit_out, no_digit_out}
use Rattle.text_lines.proofs.write.push_number.Goals as goal

pub loop-left-preserved : goal.loop-left-preserved
loop-left-preserved c = record {
  whole = rw c.push_reserved-in-loop-left.ensures.items (next_digit_out _ _ c.loop-left.left c.args.number _ c.loop-left-test.true (c.hex_digit.ensures ∙ ap hex_digit (and_mask _ 4)) c.loop-left.invariant.whole);
  left = omega arith;
  room = omega (arith, c.push_reserved-in-loop-left.ensures.len, c.push_reserved-in-loop-left.ensures.capacity, c.loop-left.invariant.room, c.loop-left-test.true);
}

pub returns-clause-pushed : goal.returns-clause-pushed
returns-clause-pushed c =
    no_digit_out _ _ c.loop-left.left c.args.number (omega arith) (c.loop-left.invariant.whole ∙ rw (c.push_reserved.ensures.items, c.reserve.ensures.items) (append_assoc c.args.out.now.items (32 ∷ []) _))
