-- Fields of a file by their offset, the lowest byte first (System V gABI, "Data Representation" and the encoding ELFDATA2LSB of "ELF Identification").
use Rattle.std.specs.Prelude.{ℕ, ℤ, ◌+◌, nat_le, Bool, ◌==◌, if◌then◌else◌, Option, Some, None, option_map, List, length, take, drop, position}
use Rattle.std.specs.Int.{cast_signed, w64}
use Rattle.byteorder.specs.Endian.{little_number}

-- the `size` bytes from an offset on lie in the file
abbrev pub is_within : List ℕ → ℕ → ℕ → Bool
is_within bytes at size = nat_le (at + size) (length bytes)

-- the number in the `size` bytes from an offset on
unfoldable pub number_at : List ℕ → ℕ → ℕ → ℕ
number_at bytes at size = little_number size (drop at bytes)

-- that number, if these bytes lie in the file
abbrev pub field_at : List ℕ → ℕ → ℕ → Option ℕ
field_at bytes at size = if is_within bytes at size then Some (number_at bytes at size) else None

-- a field of 8 bytes, read as a two's complement number
abbrev pub signed_at : List ℕ → ℕ → Option ℤ
signed_at bytes at = option_map (λ n. cast_signed w64 n) (field_at bytes at 8)

-- the `len` bytes from an offset on, if they lie in the file
abbrev pub part_at : List ℕ → ℕ → ℕ → Option (List ℕ)
part_at bytes at len = if is_within bytes at len then Some (take len (drop at bytes)) else None

-- a string is the bytes before its NUL (System V gABI, "String Table")
abbrev pub string_of : List ℕ → Option (List ℕ)
string_of bytes = option_map (λ len. take len bytes) (position (λ b. b == 0) bytes)

-- the string that begins at an offset, if its NUL lies in the file
abbrev pub string_at : List ℕ → ℕ → Option (List ℕ)
string_at bytes at = string_of (drop at bytes)
