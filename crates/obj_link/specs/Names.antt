-- Where the names of symbols begin (System V gABI, "Symbol Table", st_name).
use Rattle.std.specs.Prelude.{ℕ, ◌==◌, if◌then◌else◌, List, length}
use Rattle.elf_tables.specs.Symbol.{symbol, symbol_names}

-- in the table of names; the name of number 0, which says nothing, is empty, as at the table's end
abbrev pub start_in : List ℕ → ℕ → ℕ
start_in bytes n = if n == 0 then length (symbol_names bytes) else (symbol bytes n).name
