-- Numbers in hexadecimal digits.
use Rattle.std.specs.Prelude.{ℕ, zero, suc, ◌+◌, ◌-◌, ◌*◌, ◌/◌, ◌%◌, ◌^◌, ◌==◌, nat_le, nat_lt, Bool, not, ◌&&◌, if◌then◌else◌, List, [], ◌∷◌, length, slice_index, Option, Some, None, option_and_then}
use Rattle.text_lines.specs.declared.hexadecimal.Case.{Case}
use Rattle.text_lines.specs.declared.hexadecimal.Case.TheVariants.{Lower, Either}

-- the value of a hexadecimal digit in lower case
abbrev pub digit_value : ℕ → Option ℕ
digit_value b =
    if nat_le 48 b && nat_le b 57 then Some (b - 48) else
    if nat_le 97 b && nat_le b 102 then Some (b - 87) else None

-- the value of a digit whose letters are in this case
abbrev pub digit_of : Case → ℕ → Option ℕ
digit_of Lower b = digit_value b
digit_of Either b = if nat_le 65 b && nat_le b 70 then Some (b - 55) else digit_value b

-- the number that digits spell after those of the number `high`
unfoldable pub hex_from : Case → ℕ → List ℕ → Option ℕ
hex_from case high [] = Some high
hex_from case high (b ∷ rest) = option_and_then (λ d. hex_from case (16 * high + d) rest) (digit_of case b)

-- the number that a word of just `count` digits in lower case spells
abbrev pub hex : ℕ → List ℕ → Option ℕ
hex count word = if length word == count then hex_from Lower 0 word else None

-- a zero stands before other digits
abbrev pub has_leading_zero : List ℕ → Bool
has_leading_zero word = nat_lt 1 (length word) && slice_index word 0 == 48

-- the number that a word of 1 to 8 digits spells, whose first is a zero only where it is alone
abbrev pub short_hex : Case → List ℕ → Option ℕ
short_hex case word =
    if nat_le 1 (length word) && nat_le (length word) 8 && not (has_leading_zero word) then hex_from case 0 word else None

-- a digit below 16: `0` to `9`, then `a` to `f`
abbrev pub hex_digit : ℕ → ℕ
hex_digit d = if nat_lt d 10 then 48 + d else 87 + d

-- the last `count` hexadecimal digits of a number, the highest first
unfoldable pub hex_text : ℕ → ℕ → List ℕ
hex_text zero n = []
hex_text (suc count) n = hex_digit (n / 2 ^ (4 * count) % 2 ^ 4) ∷ hex_text count n
