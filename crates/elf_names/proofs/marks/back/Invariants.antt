use Rattle.elf_names.specs.Marks.{IsMark, ending}
use Rattle.elf_names.specs.Texts.{Grows}
use Rattle.elf_names.proofs.marks.back.Given as goal

abbrev pub invariant-loop-n : goal.invariant-loop-n
invariant-loop-n l = Grows l.initial.texts l.texts × IsMark l.texts (ending l.n l.table) l.mark
