use Rattle.std.proofs.Common.{sym, ◌∙◌}
use Rattle.elf_writer.specs.Parts.{section_of}
use Rattle.elf_writer.specs.Object.{section_entry}
use Rattle.elf_writer.specs.Writing.{view_of}
use Rattle.elf_writer.proofs.Loops.{written_next, written_end}
use Rattle.elf_writer.proofs.write.add_sections.Goals as goal

pub loop-section-preserved : goal.loop-section-preserved
loop-section-preserved c =
    written_next section_entry section_of c.args.sections.now c.loop-section.section-index _ (view_of c.loop-section.writer) (view_of c.add_section.new.writer) c.loop-section-test.true c.in_ok-add_section.ensures
    ∙ c.loop-section.invariant

pub returns : goal.returns
returns c =
    sym (written_end section_entry section_of c.args.sections.now c.loop-section.section-index (view_of c.loop-section.writer) c.loop-section-test.false)
    ∙ c.loop-section.invariant
