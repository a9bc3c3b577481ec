-- Symbols that relocations name and that are not there (System V gABI, "Relocation").
use Rattle.std.specs.Prelude.{ℕ, nat_lt, if◌then◌else◌, Option, Some, None, List}
use Rattle.elf_tables.specs.Header.{e_shnum}
use Rattle.elf_tables.specs.Symbol.{symbol_count}
use Rattle.elf_tables.specs.Relocation.{relocation_in, relocation_count, relocation_bytes}
use Rattle.least.specs.Least.{least_below}

-- the number of the symbol that a relocation names, where no symbol has that number
abbrev pub stray_at : ℕ → List ℕ → ℕ → Option ℕ
stray_at count table index =
    if nat_lt (relocation_in table index).symbol count then None else Some (relocation_in table index).symbol

abbrev pub stray_in : ℕ → List ℕ → Option ℕ
stray_in count table = least_below (stray_at count table) (relocation_count table)

-- the least number of a symbol that a relocation of a kept section names and that is not there
unfoldable pub stray_symbol : List ℕ → Option ℕ
stray_symbol bytes = least_below (λ target. stray_in (symbol_count bytes) (relocation_bytes bytes target)) (e_shnum bytes)
