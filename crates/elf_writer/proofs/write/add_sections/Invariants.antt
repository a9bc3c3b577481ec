use Rattle.std.proofs.Common.{◌≡◌, drop, map}
use Rattle.elf_writer.specs.Parts.{section_of}
use Rattle.elf_writer.specs.Object.{section_entry}
use Rattle.elf_writer.specs.Writing.{view_of, written}
use Rattle.elf_writer.proofs.write.add_sections.Given as goal

abbrev pub invariant-loop-section : goal.invariant-loop-section
invariant-loop-section l =
    written (view_of l.writer) (drop l.section-index (map section_entry (map section_of l.sections)))
    ≡ written (view_of l.initial.writer) (map section_entry (map section_of l.sections))
