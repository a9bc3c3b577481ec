-- A line of the numbers of system calls, as graphs and policies have it: `calls`, and then 1 to 8 decimal numbers
-- without leading zeros. Range: a number is 2^11 or more. Order: the numbers do not rise.
use Rattle.std.specs.Prelude.{ℕ, ◌+◌, ◌^◌, nat_lt, nat_le, Bool, true, false, ◌&&◌, if◌then◌else◌, List, [], ◌∷◌, length, codes, Option, Some, None, option_map, option_and_then, Result}
use Rattle.std.specs.List.{list_all}
use Rattle.std.specs.Str.{bytes_eq}
use Rattle.rv_word.specs.Numbers.{MOST_NUMBERS}
use Rattle.rv_word.specs.declared.end.End.{End}
use Rattle.text_lines.specs.Decimal.{decimal}
use Rattle.text_lines.specs.Reading.{LineRules, judged}
use Rattle.text_lines.specs.declared.fault.LineFault.{LineFault}
use Rattle.cfi_graph.specs.Graph.{are_calls, is_rising}

-- the numbers that decimal words spell
unfoldable pub decimals_of : List (List ℕ) → Option (List ℕ)
decimals_of [] = Some []
decimals_of (word ∷ rest) =
    option_and_then (λ n. option_map (λ others. n ∷ others) (decimals_of rest)) (decimal word)

-- one to eight numbers
abbrev pub if_few : List ℕ → Option (List ℕ)
if_few numbers = if nat_lt 0 (length numbers) && nat_le (length numbers) MOST_NUMBERS then Some numbers else None

abbrev pub few_in : List (List ℕ) → Option (List ℕ)
few_in words = option_and_then if_few (decimals_of words)

-- the numbers of the line that words spell, if they spell one
abbrev pub calls_of : List (List ℕ) → Option (List ℕ)
calls_of [] = None
calls_of (name ∷ words) = if bytes_eq name (codes "calls") then few_in words else None

-- the form of such a line, wherever it stands
abbrev pub calls_rules : LineRules (List ℕ) (Unit {0}) ℕ
calls_rules = record {
  spelled = calls_of;
  in_range = list_all (λ n. nat_lt n (2 ^ 11));
  in_order = λ before numbers. is_rising nat_lt numbers;
  after = λ numbers. tt;
  items = λ numbers. numbers;
}

-- the numbers, or the first reason why the line with this number is refused
abbrev pub judged_calls : ℕ → Option (List ℕ) → Result (List ℕ) (End LineFault)
judged_calls number spelled = judged calls_rules tt number spelled

-- what stands before a text's lines: the list of system calls, if there is one, and then those lines
pub record Listed : Type 0 where
  pub calls : Option (List ℕ)
  pub lines : List (List ℕ)

-- the number of the line after a list, where it may stand in the line with this number
abbrev pub line_after : ℕ → Option (List ℕ) → ℕ
line_after number None = number
line_after number (Some calls) = number + 1

-- words of private contracts: numbers that are all small enough, and a number with whether it is not
abbrev pub small_in : List ℕ → Option (List ℕ)
small_in numbers = if list_all (λ n. nat_lt n (2 ^ 11)) numbers then Some numbers else None

abbrev pub with_size : ℕ → ℕ × Bool
with_size n = if nat_lt n (2 ^ 11) then (n, false) else (0, true)

-- a list that a graph may have, if there is one
abbrev pub may_be_calls : Option (List ℕ) → Bool
may_be_calls None = true
may_be_calls (Some calls) = are_calls calls && is_rising nat_lt calls
