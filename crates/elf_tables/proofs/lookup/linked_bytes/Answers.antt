use Rattle.std.proofs.Common.{sym, ◌∙◌}
use Rattle.elf_tables.specs.Table.{is_symbol_table, symbol_table}
use Rattle.elf_tables.specs.Header.{e_shnum}
use Rattle.least.proofs.Firsts.{first_bound}
use Rattle.elf_tables.proofs.lookup.linked_bytes.Goals as goal

pub header-requires : goal.header-requires
unfolding symbol_table
header-requires c = first_bound (is_symbol_table c.args.sections.now) (e_shnum c.args.sections.now) _ (sym c.requires ∙ c.in-Some.is)
