-- The numbers of the system calls that a program may make: at most eight, each below 2^11, as an `addi`
-- from x0 can bring it into a register without its sign.
use Rattle.std.specs.Prelude.{ℕ, ◌<◌, ◌^◌, ◌==◌, ◌&&◌, ◌||◌, Bool, true, false, List, [], ◌∷◌}
use Rattle.rv_word.specs.declared.numbers.TheConstants as counts

-- how many there may be
abbrev pub MOST_NUMBERS : ℕ
MOST_NUMBERS = counts.MOST_NUMBERS

abbrev pub IsNumber : ℕ → Type 0
IsNumber n = n < 2 ^ 11

-- whether a number is in a list
abbrev pub is_listed : ℕ → List ℕ → Bool
is_listed x [] = false
is_listed x (n ∷ ns) = (n == x) || is_listed x ns

-- whether two lists have the same numbers in the same order
abbrev pub are_same : List ℕ → List ℕ → Bool
are_same [] [] = true
are_same (n ∷ ns) (call ∷ calls) = (n == call) && are_same ns calls
are_same ns calls = false
