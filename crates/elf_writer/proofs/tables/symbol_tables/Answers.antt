use Rattle.std.proofs.Common.{rules, ◌∙◌, ◌++◌, ap, refl}
use Rattle.elf_writer.specs.Names.{ended, string_table}
use Rattle.elf_writer.specs.Tables.{symbols_bytes}
use Rattle.elf_writer.proofs.Loops.{symbols_next, names_next, symbols_end}
use Rattle.elf_writer.proofs.tables.symbol_tables.Goals as goal

pub loop-symbol-init : goal.loop-symbol-init
unfolding symbols_bytes string_table
loop-symbol-init c = record {
  entries = rw (c.in_ok-tables.ensures.entries, c.in_ok-tables.ensures.names) refl;
  names = rw c.in_ok-tables.ensures.names refl;
}

pub loop-symbol-preserved : goal.loop-symbol-preserved
loop-symbol-preserved c =
    let name = c.in_ok-put_name.ensures ∙ ap (λ n. c.loop-symbol.tables.names.items ++ ended n) c.as_slice.ensures in
    record {
      entries =
          symbols_next c.args.symbols.now c.loop-symbol.symbol-index c.symbol-item.result c.loop-symbol.tables.entries.items _ c.loop-symbol.tables.names.items _ _ c.loop-symbol-test.true c.symbol-item.is (c.len.ensures ∙ search rules) c.in_ok-put_symbol.ensures name
          ∙ c.loop-symbol.invariant.entries;
      names =
          names_next c.args.symbols.now c.loop-symbol.symbol-index c.symbol-item.result c.loop-symbol.tables.names.items _ c.loop-symbol-test.true c.symbol-item.is name
          ∙ c.loop-symbol.invariant.names;
    }

pub returns-clause-entries : goal.returns-clause-entries
returns-clause-entries c = symbols_end c.args.symbols.now c.loop-symbol.symbol-index _ _ c.loop-symbol-test.false ∙ c.loop-symbol.invariant.entries
