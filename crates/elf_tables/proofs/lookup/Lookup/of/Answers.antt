use Rattle.std.proofs.Common.{◌∙◌, ap}
use Rattle.elf_tables.specs.Section.{section_bytes}
use Rattle.elf_tables.specs.Symbol.{bytes_of, linked_bytes, symbol_bytes, symbol_names}
use Rattle.elf_tables.proofs.lookup.Lookup.of.Goals as goal

pub invariant_of-result : goal.invariant_of-result
unfolding symbol_bytes symbol_names
invariant_of-result c = record {
  names_are = c.of-names.ensures ∙ c.bytes_of.ensures ∙ ap (section_bytes c.args.sections) c.names_index.ensures;
  table_is = c.symbol_table-symbol_table.ensures;
  symbols_are = c.bytes_of-symbols.ensures ∙ ap (bytes_of c.args.sections) c.symbol_table-symbol_table.ensures;
  names_of_symbols_are = c.of-symbol_names.ensures ∙ c.linked_bytes.ensures ∙ ap (linked_bytes c.args.sections) c.symbol_table-symbol_table.ensures;
  each = c.in_ok-relocations.ensures.len;
  first = c.in_ok-relocations.ensures.first;
}
