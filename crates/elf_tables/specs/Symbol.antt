-- Symbols (System V gABI, "Symbol Table").
use Rattle.std.specs.Prelude.{ℕ, ◌+◌, ◌*◌, ◌/◌, ◌%◌, ◌^◌, Option, Some, None, List, [], length, slice_index}
use Rattle.elf_bytes.specs.Fields.{number_at, string_at}
use Rattle.elf_bytes.specs.declared.places.TheConstants as offsets
use Rattle.elf_tables.specs.declared.entry.SymbolEntry.{SymbolEntry}
use Rattle.elf_tables.specs.Section.{section_header, section_bytes}
use Rattle.elf_tables.specs.Table.{symbol_table}

-- the bytes of a symbol table, and those of its names: the section sh_link
abbrev pub bytes_of : List ℕ → Option ℕ → List ℕ
bytes_of bytes None = []
bytes_of bytes (Some index) = section_bytes bytes index

abbrev pub linked_bytes : List ℕ → Option ℕ → List ℕ
linked_bytes bytes None = []
linked_bytes bytes (Some index) = section_bytes bytes (section_header bytes index).link

unfoldable pub symbol_bytes : List ℕ → List ℕ
symbol_bytes bytes = bytes_of bytes (symbol_table bytes)

unfoldable pub symbol_names : List ℕ → List ℕ
symbol_names bytes = linked_bytes bytes (symbol_table bytes)

-- how many symbols there are, number 0 among them
abbrev pub symbol_count : List ℕ → ℕ
symbol_count bytes = length (symbol_bytes bytes) / offsets.ENTRY_SIZE

-- the symbol with a number in the bytes of a symbol table
unfoldable pub symbol_in : List ℕ → ℕ → SymbolEntry
symbol_in table number = record {
  name = number_at table (offsets.ENTRY_SIZE * number) 4;  -- st_name
  info = slice_index table (offsets.ENTRY_SIZE * number + offsets.ST_INFO);
  section = number_at table (offsets.ENTRY_SIZE * number + offsets.ST_SHNDX) 2;
  value = number_at table (offsets.ENTRY_SIZE * number + offsets.ST_VALUE) 8;
  size = number_at table (offsets.ENTRY_SIZE * number + offsets.ST_SIZE) 8;
}

abbrev pub symbol : List ℕ → ℕ → SymbolEntry
symbol bytes number = symbol_in (symbol_bytes bytes) number

-- the halves of st_info, ELF64_ST_TYPE and ELF64_ST_BIND
abbrev pub symbol_type : ℕ → ℕ
symbol_type info = info % 2 ^ 4

abbrev pub symbol_binding : ℕ → ℕ
symbol_binding info = info / 2 ^ 4

-- the name of a symbol, if its NUL is in the table
abbrev pub symbol_name : List ℕ → ℕ → Option (List ℕ)
symbol_name bytes number = string_at (symbol_names bytes) (symbol bytes number).name
