use Rattle.std.proofs.Common.{◌∙◌, ap, sym}
use Rattle.std.proofs.lemmas.Bool.{eqb-false, eqb-true}
use Rattle.std.specs.Option.{option_map}
use Rattle.text_lines.specs.Decimal.{capped}
use Rattle.text_lines.proofs.Decimals.{decimal_is, leading_zero, no_digits}
use Rattle.text_lines.proofs.decimal.decimal_of.Goals as goal

pub returns-then-is_empty : goal.returns-then-is_empty
returns-then-is_empty c =
    sym (ap (option_map capped) (no_digits c.args.word.now (eqb-true _ _ (sym c.is_empty.ensures ∙ c.if-is_empty.true))))

pub returns-then-has_leading_zero : goal.returns-then-has_leading_zero
returns-then-has_leading_zero c =
    sym (ap (option_map capped) (leading_zero c.args.word.now (sym c.has_leading_zero.ensures ∙ c.if-has_leading_zero.true)))

pub returns : goal.returns
returns c =
    c.capped_number.ensures ∙ sym (ap (option_map capped) (decimal_is c.args.word.now (eqb-false _ _ (sym c.is_empty.ensures ∙ c.if-is_empty.false)) (sym c.has_leading_zero.ensures ∙ c.if-has_leading_zero.false)))
