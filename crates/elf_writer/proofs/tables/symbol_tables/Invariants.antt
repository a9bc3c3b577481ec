use Rattle.std.proofs.Common.{◌≡◌, ◌++◌, drop, length, map}
use Rattle.std.specs.List.{flat_map}
use Rattle.elf_writer.specs.Names.{ended, string_table}
use Rattle.elf_writer.specs.Parts.{symbol_of, symbol_names}
use Rattle.elf_writer.specs.Tables.{symbols_bytes, symbols_from}
use Rattle.elf_writer.proofs.tables.symbol_tables.Given as goal

abbrev pub invariant-loop-symbol : goal.invariant-loop-symbol
invariant-loop-symbol l = record {
  entries : l.tables.entries.items ++ symbols_from (length l.tables.names.items) (drop l.symbol-index (map symbol_of l.symbols))
      ≡ symbols_bytes (map symbol_of l.symbols);
  names : l.tables.names.items ++ flat_map ended (symbol_names (drop l.symbol-index (map symbol_of l.symbols)))
      ≡ string_table (symbol_names (map symbol_of l.symbols));
}
