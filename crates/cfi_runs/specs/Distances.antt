-- Signed 12-bit fields in the order of the offsets that they hold: the level of a field is its offset counted from -2048 on.
use Rattle.std.specs.Prelude.{ℕ, zero, suc, ◌+◌, ◌%◌, ◌^◌, min}

abbrev pub level : ℕ → ℕ
level imm = (imm + 2 ^ 11) % 2 ^ 12

-- the field at a level
abbrev pub field : ℕ → ℕ
field low = (low + 2 ^ 11) % 2 ^ 12

-- the least value of a function at a number and so many more after it
abbrev pub lowest : (ℕ → ℕ) → ℕ → ℕ → ℕ
lowest f first zero = f first
lowest f first (suc n) = min (lowest f first n) (f (first + suc n))
