-- Fields of a word, and sign extension (RISC-V unprivileged ISA, "Immediate Encoding Variants").
use Rattle.std.specs.Prelude.{ℕ, ◌+◌, ◌-◌, ◌/◌, ◌%◌, ◌^◌, nat_lt, if◌then◌else◌}

-- the `len` bits of a word from bit `lo` on, as a number
abbrev pub bits_from : ℕ → ℕ → ℕ → ℕ
bits_from word lo len = word / 2 ^ lo % 2 ^ len

-- what is added to a number of `bits` bits to extend its sign to 64 bits: nothing, or ones above
abbrev pub sign_of : ℕ → ℕ → ℕ
sign_of n bits = if nat_lt n (2 ^ (bits - 1)) then 0 else 2 ^ 64 - 2 ^ bits

-- the low `bits` bits of a number, sign-extended to 64 bits
abbrev pub sign_extended : ℕ → ℕ → ℕ
sign_extended n bits = n % 2 ^ bits + sign_of (n % 2 ^ bits) bits

-- a number modulo 2 ^ 64
abbrev pub wrap : ℕ → ℕ
wrap n = n % 2 ^ 64
