use Rattle.std.proofs.Common.{◌≡◌, drop, map}
use Rattle.elf_writer.specs.Parts.{relocations_of}
use Rattle.elf_writer.specs.Object.{relocations_entry}
use Rattle.elf_writer.specs.Writing.{view_of, written}
use Rattle.elf_writer.proofs.write.add_relocations.Given as goal

abbrev pub invariant-loop-table : goal.invariant-loop-table
invariant-loop-table l =
    written (view_of l.writer) (drop l.table-index (map (relocations_entry l.symbols) (map relocations_of l.relocations)))
    ≡ written (view_of l.initial.writer) (map (relocations_entry l.symbols) (map relocations_of l.relocations))
