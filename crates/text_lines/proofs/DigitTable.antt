-- The table of digits has the value of each byte.
use Rattle.std.proofs.Common.{◌≡◌, ℕ, ◌<◌, ◌^◌, List, get_or, map, refl, ◌∙◌, ap, arith}
use Rattle.std.specs.Option.{unwrap_or}
use Rattle.std.specs.List.{range_with_len}
use Rattle.std.proofs.lemmas.List.FromFn.{get_or-map-range_with_len}
use Rattle.text_lines.specs.declared.hexadecimal.TheConstants as constants
use Rattle.text_lines.specs.Hex.{digit_value}

table_is : constants.DIGITS ≡ map (λ b. unwrap_or (digit_value b) (2 ^ 32)) (range_with_len 0 256)
table_is = refl

pub table_value : (b : ℕ) → b < 256 → get_or constants.DIGITS b 0 ≡ unwrap_or (digit_value b) (2 ^ 32)
table_value b h =
    ap (λ (l : List ℕ). get_or l b 0) table_is ∙ get_or-map-range_with_len (λ n. unwrap_or (digit_value n) (2 ^ 32)) 0 256 b b 0 h (omega arith)
