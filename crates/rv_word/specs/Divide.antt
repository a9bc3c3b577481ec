-- Quotients and remainders (RISC-V unprivileged ISA, "M Extension for Integer Multiplication and
-- Division", DIV, DIVU, REM and REMU): a quotient is rounded towards zero, a remainder has the
-- dividend's sign. `int_div` and `int_rem` are these two of whole numbers. The quotient of the least
-- number by -1 needs no words: its bits are those of the least number.
use Rattle.std.specs.Prelude.{ℕ, negsuc, ◌==◌, Bool, if◌then◌else◌, int_div, int_rem}
use Rattle.std.specs.Int.{Width, cast_unsigned}
use Rattle.rv_word.specs.Multiply.{whole}

-- by 0 the quotient is -1, all of whose bits are ones
abbrev pub quotient : Width → Bool → ℕ → ℕ → ℕ
quotient w signed a b =
    cast_unsigned w (if b == 0 then negsuc 0 else int_div (whole w signed a) (whole w signed b))

-- by 0 the remainder is the dividend
abbrev pub remainder : Width → Bool → ℕ → ℕ → ℕ
remainder w signed a b = if b == 0 then a else cast_unsigned w (int_rem (whole w signed a) (whole w signed b))
