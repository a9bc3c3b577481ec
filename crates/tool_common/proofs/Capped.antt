-- A number of steps, of which the reader keeps each that is too large as one.
use Rattle.std.proofs.Common.{◌≡◌, ℕ, Option, Some, None, refl, arith}
use Rattle.std.specs.Option.{option_map, option_and_then}
use Rattle.text_lines.specs.Decimal.{MAX_STEP, capped}
use Rattle.tool_common.specs.Words.{at_most}

capped_at_most : (n : ℕ) → at_most MAX_STEP n ≡ at_most MAX_STEP (capped n)
capped_at_most n = grind (arith)

pub steps_capped : (o : Option ℕ) → option_and_then (at_most MAX_STEP) o ≡ option_and_then (at_most MAX_STEP) (option_map capped o)
steps_capped None = refl
steps_capped (Some n) = capped_at_most n
