use Rattle.std.proofs.Common.{arith}
use Rattle.std.proofs.lemmas.List.{length-map}
use Rattle.elf_writer.specs.Parts.{parts_of, relocations_of, section_of}
use Rattle.elf_writer.specs.Writing.{view_of}
use Rattle.elf_writer.proofs.Closing.{object_written}
use Rattle.elf_writer.proofs.write.object_bytes.Goals as goal

pub returns : goal.returns
returns c =
    object_written (parts_of c.args.parts.now) _ (view_of c.in_ok-writer.writer) (view_of c.add_sections.new.writer) (view_of c.add_relocations.new.writer) (view_of c.add_symbols.new.writer) (view_of c.add_names.new.self) _
    (omega (arith, length-map c.args.parts.now.sections.now section_of, length-map c.args.parts.now.relocations.now relocations_of))
    c.in_ok-writer.ensures c.in_ok-add_sections.ensures c.in_ok-add_relocations.ensures c.in_ok-add_symbols.ensures c.in_ok-add_names.ensures c.in_ok-file.ensures
