-- The tables of symbols and relocations (System V gABI, "Special Sections", "sh_link and sh_info Interpretation").
use Rattle.std.specs.Prelude.{ℕ, ◌%◌, Bool, ◌==◌, ◌&&◌, Option, List}
use Rattle.elf_bytes.specs.declared.places.TheConstants as offsets
use Rattle.elf_tables.specs.declared.header.SectionHeader.{SectionHeader}
use Rattle.least.specs.First.{first_below}
use Rattle.elf_tables.specs.Header.{e_shnum}
use Rattle.elf_tables.specs.Section.{section_header}

-- SHT_SYMTAB
abbrev pub is_symbol_table : List ℕ → ℕ → Bool
is_symbol_table bytes index = (section_header bytes index).kind == 2

-- the symbol table is the first section of that type
unfoldable pub symbol_table : List ℕ → Option ℕ
symbol_table bytes = first_below (is_symbol_table bytes) (e_shnum bytes)

-- an SHT_RELA section with relocations of the section `target`
abbrev pub relocates : List ℕ → ℕ → ℕ → Bool
relocates bytes target index = (section_header bytes index).kind == 4 && (section_header bytes index).info == target

-- whole entries, as of Elf64_Sym and Elf64_Rela
abbrev pub has_entries : SectionHeader → Bool
has_entries h = h.entry_size == offsets.ENTRY_SIZE && h.size % offsets.ENTRY_SIZE == 0
