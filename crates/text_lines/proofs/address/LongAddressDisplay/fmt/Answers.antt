use Rattle.std.proofs.Common.{◌∙◌, ap}
use Rattle.text_lines.specs.Hex.{hex_text}
use Rattle.text_lines.proofs.Printed.{sixteen_digits}
use Rattle.text_lines.proofs.address.LongAddressDisplay.fmt.Goals as goal

pub returns-clause-writes : goal.returns-clause-writes
returns-clause-writes g c =
    let whole = sixteen_digits c.number-address.result c.number-address.ensures.small ∙ ap (hex_text 16) c.number-address.ensures.value in
    rw whole at rw (c.laid_out.ensures, c.in_radix.ensures) at c.write.ensures.writes
