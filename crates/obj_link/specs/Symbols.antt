-- What the symbols of an object say (System V gABI, "Symbol Table", "Special Section Indexes").
use Rattle.std.specs.Prelude.{ℕ, nat_lt, Bool, not, ◌==◌, ◌&&◌, if◌then◌else◌, unwrap_or, List, []}
use Rattle.elf_tables.specs.declared.entry.SymbolEntry.{SymbolEntry}
use Rattle.elf_tables.specs.Header.{e_shnum}
use Rattle.elf_tables.specs.Section.{section_header}
use Rattle.elf_tables.specs.Kept.{is_executable, is_kept}
use Rattle.elf_tables.specs.Symbol.{symbol, symbol_binding, symbol_count, symbol_name, symbol_type}
use Rattle.obj_input.specs.Listed.{listed}
use Rattle.obj_join.specs.declared.standing.Standing.{Standing}
use Rattle.obj_join.specs.declared.standing.Standing.TheVariants.{AsCommon, AsNumber, InSection, Nowhere}
use Rattle.obj_join.specs.Said.{SymbolSaid}
use Rattle.obj_join.specs.Symbols.{no_symbol}

-- a section that is kept; SHN_UNDEF is none, also where the header of section 0 is one's
abbrev pub is_kept_section : List ℕ → ℕ → Bool
is_kept_section bytes k = not (k == 0) && nat_lt k (e_shnum bytes) && is_kept bytes k

-- a number (SHN_ABS), a common block (SHN_COMMON), or a section that is kept
abbrev pub standing_of : List ℕ → ℕ → Standing
standing_of bytes s =
    if s == 0xfff1 then AsNumber else
    if s == 0xfff2 then AsCommon else
    if is_kept_section bytes s then InSection s else Nowhere

-- STT_FUNC, in a section of code
abbrev pub is_function : List ℕ → SymbolEntry → Bool
is_function bytes s = symbol_type s.info == 2 && is_kept_section bytes s.section && is_executable (section_header bytes s.section)

abbrev pub symbol_said : List ℕ → ℕ → SymbolEntry → SymbolSaid
symbol_said bytes n s = record {
  name = unwrap_or (symbol_name bytes n) [];
  binding = symbol_binding s.info;
  standing = standing_of bytes s.section;
  value = s.value;
  size = s.size;
  is_function = is_function bytes s;
}

-- number 0 says nothing, whatever its entry
abbrev pub symbol_said_in : List ℕ → ℕ → SymbolSaid
symbol_said_in bytes n = if n == 0 then no_symbol else symbol_said bytes n (symbol bytes n)

abbrev pub symbols_said : List ℕ → List SymbolSaid
symbols_said bytes = listed (symbol_said_in bytes) (symbol_count bytes)
