use Rattle.std.proofs.Common.{◌≡◌, take}
use Rattle.std.specs.List.{flat_map}
use Rattle.elf_writer.specs.Tables.{relocation_entry_bytes}
use Rattle.elf_writer.proofs.tables.relocations_bytes.Given as goal

abbrev pub invariant-loop-reloc : goal.invariant-loop-reloc
invariant-loop-reloc l = l.table.items ≡ flat_map relocation_entry_bytes (take l.reloc-index l.entries)
