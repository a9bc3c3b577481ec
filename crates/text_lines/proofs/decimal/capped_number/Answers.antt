use Rattle.std.proofs.Common.{◌∙◌, ap, arith, sym}
use Rattle.std.specs.Option.{option_map}
use Rattle.text_lines.specs.Decimal.{capped}
use Rattle.text_lines.proofs.Decimals.{bad_decimal, next_decimal, no_decimal}
use Rattle.text_lines.proofs.decimal.capped_number.Goals as goal

pub returns-in_err-decimal_digit : goal.returns-in_err-decimal_digit
returns-in_err-decimal_digit c =
    rw c.from_residual.ensures (sym (sym c.loop-byte.invariant.1 ∙ ap (option_map capped) (bad_decimal c.args.word.now c.loop-byte.byte-index c.loop-byte.number (omega arith) (sym c.decimal_digit.ensures.value ∙ c.in_err-decimal_digit.was))))

pub loop-byte-preserved : goal.loop-byte-preserved
loop-byte-preserved c =
    let next = next_decimal c.args.word.now c.loop-byte.byte-index c.loop-byte.number _ (omega arith) (sym c.decimal_digit.ensures.value ∙ c.in_ok-decimal_digit.was) in
    rw c.min-number.ensures (omega arith, sym next ∙ c.loop-byte.invariant.1)

pub returns : goal.returns
returns c =
    sym (sym c.loop-byte.invariant.1 ∙ no_decimal c.args.word.now c.loop-byte.byte-index c.loop-byte.number c.loop-byte-test.false c.loop-byte.invariant.0)
