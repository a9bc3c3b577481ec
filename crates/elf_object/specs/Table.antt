-- Wrong tables of names, symbols and relocations (System V gABI, "Special Sections", "sh_link and sh_info Interpretation").
use Rattle.std.specs.Prelude.{ℕ, nat_lt, nat_le, Bool, false, ◌==◌, ◌&&◌, ◌||◌, not, is_some, is_none, Option, Some, None, List}
use Rattle.elf_bytes.specs.declared.places.TheConstants as offsets
use Rattle.elf_tables.specs.declared.header.SectionHeader.{SectionHeader}
use Rattle.least.specs.First.{first_below}
use Rattle.elf_tables.specs.Header.{e_shoff, e_shentsize, e_shnum, e_shstrndx}
use Rattle.elf_tables.specs.Section.{section_header, section_name}
use Rattle.elf_tables.specs.Kept.{is_kept}
use Rattle.elf_tables.specs.Table.{is_symbol_table, symbol_table, relocates, has_entries}

-- SHT_STRTAB
abbrev pub is_string_table : List ℕ → ℕ → Bool
is_string_table bytes index = nat_lt index (e_shnum bytes) && (section_header bytes index).kind == 3

-- the header names a section header table that is not there, or not of Elf64_Shdr, or too long without extended numbers,
-- or one without a table of names
abbrev pub has_wrong_header : List ℕ → Bool
has_wrong_header bytes =
    not (e_shentsize bytes == offsets.SECTION_HEADER_SIZE) || nat_le 0xff00 (e_shnum bytes) || not (is_string_table bytes (e_shstrndx bytes))

abbrev pub is_wrong_start : List ℕ → Bool
is_wrong_start bytes =
    e_shnum bytes == 0 && not (e_shoff bytes == 0) || not (e_shnum bytes == 0) && has_wrong_header bytes

-- a second symbol table, or one without whole entries or without names
abbrev pub is_wrong_symbol_table : List ℕ → ℕ → SectionHeader → Bool
is_wrong_symbol_table bytes index h =
    is_some (first_below (is_symbol_table bytes) index) || not (has_entries h) || not (is_string_table bytes h.link)

-- there is a number, and it is this one
abbrev pub is_number : Option ℕ → ℕ → Bool
is_number None n = false
is_number (Some m) n = m == n

-- relocations of a kept section without whole entries or without the symbol table, or after others of it
abbrev pub is_wrong_rela_of_kept : List ℕ → ℕ → SectionHeader → Bool
is_wrong_rela_of_kept bytes index h =
    not (has_entries h) || not (is_number (symbol_table bytes) h.link) || is_some (first_below (relocates bytes h.info) index)

-- SHT_RELA: relocations of no section, or wrong ones of a kept one
abbrev pub is_wrong_rela : List ℕ → ℕ → SectionHeader → Bool
is_wrong_rela bytes index h =
    not (nat_lt h.info (e_shnum bytes)) || is_kept bytes h.info && is_wrong_rela_of_kept bytes index h

-- SHT_REL: relocations without addends, of no section or of a kept one
abbrev pub is_wrong_rel : List ℕ → SectionHeader → Bool
is_wrong_rel bytes h = not (nat_lt h.info (e_shnum bytes)) || is_kept bytes h.info

abbrev pub is_wrong_table_of : List ℕ → ℕ → SectionHeader → Bool
is_wrong_table_of bytes index h =
    h.kind == 2 && is_wrong_symbol_table bytes index h || h.kind == 4 && is_wrong_rela bytes index h || h.kind == 9 && is_wrong_rel bytes h

-- a section without a name, or a wrong table
abbrev pub is_wrong_table : List ℕ → ℕ → Bool
is_wrong_table bytes index = is_none (section_name bytes index) || is_wrong_table_of bytes index (section_header bytes index)
