-- Wrong symbols (System V gABI, "Symbol Table").
use Rattle.std.specs.Prelude.{ℕ, nat_lt, nat_le, Bool, ◌==◌, ◌&&◌, ◌||◌, not, is_none, List}
use Rattle.elf_bytes.specs.Fields.{string_at}
use Rattle.elf_tables.specs.declared.entry.SymbolEntry.{SymbolEntry}
use Rattle.elf_tables.specs.Header.{e_shnum}
use Rattle.elf_tables.specs.Section.{section_header}
use Rattle.elf_tables.specs.Kept.{is_kept}
use Rattle.elf_tables.specs.Symbol.{symbol, symbol_names, symbol_type}
use Rattle.elf_object.specs.Kind.{is_alignment}

-- STT_TLS and STT_GNU_IFUNC
abbrev pub has_wrong_type : SymbolEntry → Bool
has_wrong_type s = symbol_type s.info == 6 || symbol_type s.info == 10

-- st_shndx is no section, nor SHN_ABS, nor SHN_COMMON
abbrev pub has_no_place : List ℕ → SymbolEntry → Bool
has_no_place bytes s = not (nat_lt s.section (e_shnum bytes) || s.section == 0xfff1 || s.section == 0xfff2)

-- a symbol of a kept section beyond that section's end; SHN_UNDEF is no section
abbrev pub is_past_end : List ℕ → SymbolEntry → Bool
is_past_end bytes s =
    not (s.section == 0) && nat_lt s.section (e_shnum bytes) && is_kept bytes s.section
    && nat_lt (section_header bytes s.section).size s.value

-- the value of a symbol in SHN_COMMON is its alignment
abbrev pub has_wrong_alignment : SymbolEntry → Bool
has_wrong_alignment s = s.section == 0xfff2 && not (is_alignment s.value && nat_le s.value 4096)

abbrev pub is_wrong_entry : List ℕ → SymbolEntry → Bool
is_wrong_entry bytes s =
    is_none (string_at (symbol_names bytes) s.name) || has_no_place bytes s || has_wrong_type s || is_past_end bytes s || has_wrong_alignment s

-- a wrong symbol; number 0 stands for none, and its fields are not asked
abbrev pub is_wrong_symbol : List ℕ → ℕ → Bool
is_wrong_symbol bytes number = not (number == 0) && is_wrong_entry bytes (symbol bytes number)
