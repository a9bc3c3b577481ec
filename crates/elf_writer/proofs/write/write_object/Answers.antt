use Rattle.elf_writer.specs.Parts.{parts_of}
use Rattle.elf_writer.proofs.Holding.{holds_it}
use Rattle.elf_writer.proofs.write.write_object.Goals as goal

pub returns-clause-holds : goal.returns-clause-holds
returns-clause-holds c = holds_it (parts_of c.args.parts.now) _ c.in_ok-file.ensures
