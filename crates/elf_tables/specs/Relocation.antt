-- Relocations with addends (System V gABI, "Relocation").
use Rattle.std.specs.Prelude.{◌≡◌, ◌<◌, slice_index_or, ℕ, ◌+◌, ◌*◌, ◌/◌, ◌%◌, ◌^◌, if◌then◌else◌, Option, None, List, [], length}
use Rattle.std.specs.Int.{cast_signed, w64}
use Rattle.elf_bytes.specs.Fields.{number_at}
use Rattle.elf_bytes.specs.declared.places.TheConstants as offsets
use Rattle.elf_tables.specs.declared.entry.Reloc.{Reloc}
use Rattle.least.specs.First.{first_below}
use Rattle.elf_tables.specs.Header.{e_shnum}
use Rattle.elf_tables.specs.Kept.{is_kept}
use Rattle.elf_tables.specs.Table.{relocates}
use Rattle.elf_tables.specs.Symbol.{bytes_of}

-- the relocation with an index in the bytes of an SHT_RELA section; ELF64_R_SYM and ELF64_R_TYPE are the halves of r_info
unfoldable pub relocation_in : List ℕ → ℕ → Reloc
relocation_in table index = record {
  offset = number_at table (offsets.ENTRY_SIZE * index) 8;  -- r_offset
  symbol = number_at table (offsets.ENTRY_SIZE * index + offsets.R_INFO) 8 / 2 ^ 32;
  kind = number_at table (offsets.ENTRY_SIZE * index + offsets.R_INFO) 8 % 2 ^ 32;
  addend = cast_signed w64 (number_at table (offsets.ENTRY_SIZE * index + offsets.R_ADDEND) 8);
}

abbrev pub relocation_count : List ℕ → ℕ
relocation_count table = length table / offsets.ENTRY_SIZE

-- the SHT_RELA section of a section
unfoldable pub relocations_of : List ℕ → ℕ → Option ℕ
relocations_of bytes target = first_below (relocates bytes target) (e_shnum bytes)

-- the bytes of the relocations of a section; those of a section that is not kept are dropped
abbrev pub relocation_bytes : List ℕ → ℕ → List ℕ
relocation_bytes bytes target = if is_kept bytes target then bytes_of bytes (relocations_of bytes target) else []

-- a table that has for each section the first section with relocations of it, of those below `n`
abbrev pub IsFirstOfEach : List ℕ → ℕ → List (Option ℕ) → Type 0
IsFirstOfEach bytes n table = (target : ℕ) → target < length table → slice_index_or table target None ≡ first_below (relocates bytes target) n
