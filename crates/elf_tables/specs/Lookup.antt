-- What is looked up of an object while it is tested and read.
use Rattle.std.specs.Prelude.{◌≡◌, ℕ, Option, List, length}
use Rattle.elf_tables.specs.Header.{e_shnum}
use Rattle.elf_tables.specs.Section.{section_names}
use Rattle.elf_tables.specs.Table.{symbol_table}
use Rattle.elf_tables.specs.Symbol.{symbol_bytes, symbol_names}
use Rattle.elf_tables.specs.Relocation.{IsFirstOfEach}

pub record IsLookup (bytes names : List ℕ) (table : Option ℕ) (symbols names_of_symbols : List ℕ) (relocations : List (Option ℕ)) : Type 0 where
  pub names_are : names ≡ section_names bytes
  pub table_is : table ≡ symbol_table bytes
  pub symbols_are : symbols ≡ symbol_bytes bytes
  pub names_of_symbols_are : names_of_symbols ≡ symbol_names bytes
  pub each : length relocations ≡ e_shnum bytes
  pub first : IsFirstOfEach bytes (e_shnum bytes) relocations
