use Rattle.std.proofs.Common.{sym, ◌∙◌}
use Rattle.elf_writer.specs.Parts.{relocations_of}
use Rattle.elf_writer.specs.Object.{relocations_entry}
use Rattle.elf_writer.specs.Writing.{view_of}
use Rattle.elf_writer.proofs.Loops.{written_next, written_end}
use Rattle.elf_writer.proofs.write.add_relocations.Goals as goal

pub loop-table-preserved : goal.loop-table-preserved
loop-table-preserved c =
    written_next (relocations_entry c.args.symbols) relocations_of c.args.relocations.now c.loop-table.table-index _ (view_of c.loop-table.writer) (view_of c.add_table.new.writer) c.loop-table-test.true c.in_ok-add_table.ensures
    ∙ c.loop-table.invariant

pub returns : goal.returns
returns c =
    sym (written_end (relocations_entry c.args.symbols) relocations_of c.args.relocations.now c.loop-table.table-index (view_of c.loop-table.writer) c.loop-table-test.false)
    ∙ c.loop-table.invariant
