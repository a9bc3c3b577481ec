-- Numbers in decimal digits.
use Rattle.std.specs.Prelude.{ℕ, ◌+◌, ◌-◌, ◌*◌, ◌==◌, nat_le, ◌&&◌, if◌then◌else◌, List, [], ◌∷◌, Option, Some, None, option_and_then}
use Rattle.text_lines.specs.declared.decimal.TheConstants as constants

-- the largest number of steps that may be asked for
abbrev pub MAX_STEP : ℕ
MAX_STEP = constants.MAX_STEP

abbrev pub decimal_digit : ℕ → Option ℕ
decimal_digit b = if nat_le 48 b && nat_le b 57 then Some (b - 48) else None

-- the number that decimal digits spell after those of the number `high`
unfoldable pub decimal_from : ℕ → List ℕ → Option ℕ
decimal_from high [] = Some high
decimal_from high (b ∷ rest) = option_and_then (λ d. decimal_from (10 * high + d) rest) (decimal_digit b)

-- the number that a word of decimal digits spells, whose first is a zero only where it is alone
unfoldable pub decimal : List ℕ → Option ℕ
decimal [] = None
decimal (b ∷ []) = decimal_from 0 (b ∷ [])
decimal (b ∷ next ∷ rest) = if b == 48 then None else decimal_from 0 (b ∷ next ∷ rest)

-- a number, or the one that stands for each that is too large
abbrev pub capped : ℕ → ℕ
capped n = if nat_le n MAX_STEP then n else MAX_STEP + 1
