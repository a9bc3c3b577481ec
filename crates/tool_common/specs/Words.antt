-- Words that may name a file, where `none` means no file, and words that are numbers of steps.
use Rattle.std.specs.Prelude.{ℕ, nat_le, ◌&&◌, if◌then◌else◌, List, length, codes, Option, Some, None, option_map, option_and_then}
use Rattle.std.specs.Str.{bytes_eq}
use Rattle.text_lines.specs.Decimal.{MAX_STEP, decimal_from}

-- the name of a file, if there is one
abbrev pub file_word : List ℕ → Option (List ℕ)
file_word word = if bytes_eq word (codes "none") then None else Some word

-- the text of a file, where one was named
abbrev pub text_named : Option (List ℕ) → List ℕ → Option (List ℕ)
text_named name bytes = option_map (λ n. bytes) name

abbrev pub at_most : ℕ → ℕ → Option ℕ
at_most limit n = if nat_le n limit then Some n else None

-- 1 to 10 decimal digits with a value up to 1,000,000,000
abbrev pub steps_of : List ℕ → Option ℕ
steps_of word =
    if nat_le 1 (length word) && nat_le (length word) 10 then option_and_then (at_most MAX_STEP) (decimal_from 0 word) else None
