-- The value of a relocation, its high part and its low part (RISC-V ELF psABI, "Absolute Addresses" and "PC-Relative Symbol Addresses").
use Rattle.std.specs.Prelude.{ℕ, ℤ, pos, ◌+ℤ◌, ◌-ℤ◌, ◌*ℤ◌, ◌^◌, int_le, int_lt, unsigned_abs, Bool, ◌&&◌}
use Rattle.std.specs.Int.{int_div_euclid, int_rem_euclid}

-- the high part: (value + 800h) >> 12, rounded down
abbrev pub hi20 : ℤ → ℤ
hi20 value = int_div_euclid (value +ℤ pos 0x800) (pos 0x1000)

-- the low part: what the high part leaves, from -800h to 7ffh
abbrev pub lo12 : ℤ → ℤ
lo12 value = value -ℤ hi20 value *ℤ pos 0x1000

-- a whole number modulo 2 ^ len: its low `len` bits in two's complement
abbrev pub low_bits : ℕ → ℤ → ℕ
low_bits len value = unsigned_abs (int_rem_euclid value (pos (2 ^ len)))

-- from `low` on, and below `high`
abbrev pub is_between : ℤ → ℤ → ℤ → Bool
is_between low high value = int_le low value && int_lt value high
