use Rattle.std.proofs.Common.{◌≡◌, ◌+◌, ◌≤◌, drop}
use Rattle.std.specs.Option.{option_map}
use Rattle.text_lines.specs.Decimal.{capped}
use Rattle.text_lines.specs.Decimal.{MAX_STEP, decimal_from}
use Rattle.text_lines.proofs.decimal.capped_number.Given as goal

abbrev pub invariant-loop-byte : goal.invariant-loop-byte
invariant-loop-byte l =
    (l.number ≤ MAX_STEP + 1) × (option_map capped (decimal_from l.number (drop l.byte-index l.word)) ≡ option_map capped (decimal_from 0 l.word))
