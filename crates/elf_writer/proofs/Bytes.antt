-- The bytes of numbers, as they are written.
use Rattle.std.proofs.Common.{◌≡◌, ◌≤◌, take, replicate, refl}
use Rattle.std.specs.Int.{w64, to_le_bytes}
use Rattle.byteorder.proofs.Bytes.{take-bytes_low_first}
use Rattle.elf_writer.specs.declared.number.Number.{Number}
use Rattle.elf_writer.specs.Numbers.{number_bytes}
use Rattle.elf_writer.specs.Tables.{null_symbol, symbol_bytes, symbol_numbers}

-- a number's bytes are the first of its value's 8
pub first_bytes : (n : Number) → n.size ≤ 8 → take n.size (to_le_bytes w64 n.value) ≡ number_bytes n
first_bytes n small = take-bytes_low_first 0 8 n.size n.value small

-- symbol 0 is zeros
pub null_symbol_is : replicate 24 0 ≡ symbol_bytes 0 null_symbol
unfolding symbol_numbers
null_symbol_is = refl
