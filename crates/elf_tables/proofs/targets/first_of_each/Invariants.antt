use Rattle.std.proofs.Common.{◌≡◌, length}
use Rattle.elf_tables.specs.Header.{e_shnum}
use Rattle.elf_tables.specs.Relocation.{IsFirstOfEach}
use Rattle.elf_tables.proofs.targets.first_of_each.Given as goal

abbrev pub invariant-loop-index : goal.invariant-loop-index
invariant-loop-index l = record {
  len : length l.table.items ≡ e_shnum l.sections;
  first : IsFirstOfEach l.sections l.index l.table.items;
}
