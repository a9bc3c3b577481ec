-- Numbers that stand in a file one after the other, the lowest byte first (System V gABI, "Data Representation", ELFDATA2LSB).
use Rattle.std.specs.Prelude.{ℕ, nat_le, Bool, List}
use Rattle.std.specs.List.{flat_map}
use Rattle.byteorder.specs.Endian.{little_bytes}
use Rattle.elf_writer.specs.declared.number.Number.{Number}

-- a byte, an Elf64_Half, an Elf64_Word, and an Elf64_Xword, Elf64_Sxword, Elf64_Addr or Elf64_Off
abbrev pub byte : ℕ → Number
byte value = record { size = 1; value = value }

abbrev pub half : ℕ → Number
half value = record { size = 2; value = value }

abbrev pub word : ℕ → Number
word value = record { size = 4; value = value }

abbrev pub long : ℕ → Number
long value = record { size = 8; value = value }

-- the bytes of a number, and those of several
abbrev pub number_bytes : Number → List ℕ
number_bytes n = little_bytes n.size n.value

abbrev pub numbers : List Number → List ℕ
numbers ns = flat_map number_bytes ns

-- a number of at most 8 bytes
abbrev pub is_number : Number → Bool
is_number n = nat_le n.size 8
