-- The bytes of a code that comes in pieces: how many came, and those of the word that is not whole.
use Rattle.std.specs.Prelude.{ℕ, ◌+◌, ◌*◌, ◌%◌, ◌^◌, ◌==◌, List, [], ◌∷◌, ◌++◌, get_or, Option, Some, None, if◌then◌else◌}

-- the word of four bytes, the lowest first
abbrev pub word_of : ℕ → ℕ → ℕ → ℕ → ℕ
word_of a b c d = a + 2 ^ 8 * b + 2 ^ 16 * c + 2 ^ 24 * d

pub record Taken : Type 0 where
  pub left : List ℕ
  pub fed : ℕ

-- the word that a byte makes whole, if it does
abbrev pub made : Taken → ℕ → Option ℕ
made t byte =
    if t.fed % 4 == 3 then Some (word_of (get_or t.left 0 0) (get_or t.left 1 0) (get_or t.left 2 0) byte) else None

-- what is left after one byte more
abbrev pub after_byte : Taken → ℕ → Taken
after_byte t byte =
    record { left = if t.fed % 4 == 3 then [] else t.left ++ byte ∷ []; fed = t.fed + 1 }
