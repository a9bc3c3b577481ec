use Rattle.std.proofs.Common.{◌∙◌, ap}
use Rattle.text_lines.specs.Hex.{hex_text}
use Rattle.cfi_compare.proofs.TwoDigits.{two_digits}
use Rattle.cfi_compare.proofs.call_text.ByteTextDisplay.fmt.Goals as goal

pub returns-clause-writes : goal.returns-clause-writes
returns-clause-writes g c =
    let whole = two_digits c.number-byte.result c.number-byte.ensures.small ∙ ap (hex_text 2) c.number-byte.ensures.value in
    rw whole at rw (c.laid_out.ensures, c.in_radix.ensures) at c.write.ensures.writes
