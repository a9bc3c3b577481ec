use Rattle.std.proofs.Common.{◌∙◌, ap, arith}
use Rattle.text_lines.specs.Hex.{hex_text}
use Rattle.text_lines.proofs.Printed.{eight_digits, eight_low_digits}
use Rattle.text_lines.proofs.address.AddressDisplay.fmt.Goals as goal

pub returns-clause-writes : goal.returns-clause-writes
returns-clause-writes g c =
    let low = eight_digits c.low32-address.result (omega (arith, c.low32-address.ensures)) in
    let whole = low ∙ ap (hex_text 8) c.low32-address.ensures ∙ eight_low_digits c.args.self.now.0 in
    rw whole at rw (c.laid_out.ensures, c.in_radix.ensures) at c.write.ensures.writes
