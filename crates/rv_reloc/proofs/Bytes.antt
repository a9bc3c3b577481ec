-- The bytes of a number.
use Rattle.std.proofs.Common.{◌≡◌, ◌≤◌, ℕ, take}
use Rattle.std.specs.Int.{w64, to_le_bytes}
use Rattle.byteorder.proofs.Bytes.{take-bytes_low_first}
use Rattle.byteorder.specs.Endian.{little_bytes}

-- the lowest bytes of a number are the first of its eight
pub first_bytes : (size n : ℕ) → size ≤ 8 → take size (to_le_bytes w64 n) ≡ little_bytes size n
first_bytes size n small = take-bytes_low_first 0 8 size n small
