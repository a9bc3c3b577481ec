use Rattle.std.proofs.Common.{arith}
use Rattle.text_lines.proofs.DigitTable.{table_value}
use Rattle.text_lines.proofs.hexadecimal.digit_value.Goals as goal

pub returns : goal.returns
returns c = table_value c.args.byte (omega (arith, c.ranges.byte.fits))
