-- What a relocation makes of data (RISC-V ELF psABI, "Relocations"). Numbers in data have the lowest byte first.
use Rattle.std.specs.Prelude.{ℕ, ℤ, pos, neg_ℤ, ◌+ℤ◌, ◌-ℤ◌, ◌*◌, ◌^◌, Bool, true, List, ◌++◌, drop}
use Rattle.byteorder.specs.Endian.{little_bytes, little_number}
use Rattle.rv_reloc.specs.Value.{low_bits, is_between}
use Rattle.rv_reloc.specs.declared.kinds.DataPatch.{DataPatch}
use Rattle.rv_reloc.specs.declared.kinds.DataPatch.TheVariants.{Abs32, Abs64, Add8, Add16, Add32, Add64, Sub8, Sub16, Sub32, Sub64}

-- how many bytes it changes
abbrev pub size_of : DataPatch → ℕ
size_of Abs32 = 4
size_of Abs64 = 8
size_of Add8 = 1
size_of Add16 = 2
size_of Add32 = 4
size_of Add64 = 8
size_of Sub8 = 1
size_of Sub16 = 2
size_of Sub32 = 4
size_of Sub64 = 8

-- the number that is to stand where `old` stands
abbrev pub becomes : DataPatch → ℤ → ℕ → ℤ
becomes Abs32 value old = value
becomes Abs64 value old = value
becomes Add8 value old = pos old +ℤ value
becomes Add16 value old = pos old +ℤ value
becomes Add32 value old = pos old +ℤ value
becomes Add64 value old = pos old +ℤ value
becomes Sub8 value old = pos old -ℤ value
becomes Sub16 value old = pos old -ℤ value
becomes Sub32 value old = pos old -ℤ value
becomes Sub64 value old = pos old -ℤ value

-- the bytes after the relocation: that number modulo the width in the first `size`, and then as before
abbrev pub patched_at : ℕ → (ℕ → ℤ) → List ℕ → List ℕ
patched_at size number bytes =
    little_bytes size (low_bits (8 * size) (number (little_number size bytes))) ++ drop size bytes

abbrev pub patched : DataPatch → ℤ → List ℕ → List ℕ
patched kind value bytes = patched_at (size_of kind) (becomes kind value) bytes

-- the values that the relocation takes: an address of 32 bits with a sign or without one
abbrev pub takes : DataPatch → ℤ → Bool
takes Abs32 value = is_between (neg_ℤ (pos (2 ^ 31))) (pos (2 ^ 32)) value
takes kind value = true
