-- The upper half of a product (RISC-V unprivileged ISA, "M Extension for Integer Multiplication and
-- Division", MULH, MULHSU and MULHU).
use Rattle.std.specs.Prelude.{ℕ, ℤ, pos, ◌^◌, Bool, if◌then◌else◌}
use Rattle.std.specs.Int.{Width, w64, cast_signed, cast_unsigned, int_div_euclid}

-- the whole number that the bits of a register stand for, with or without a sign
abbrev pub whole : Width → Bool → ℕ → ℤ
whole w signed n = if signed then cast_signed w n else pos n

-- the bits of a whole number from the 64th on: 64 of them
abbrev pub high_bits : ℤ → ℕ
high_bits z = cast_unsigned w64 (int_div_euclid z (pos (2 ^ 64)))
