use Rattle.elf_names.proofs.marks.number_at.Goals as goal

pub returns-clause-grown : goal.returns-clause-grown
returns-clause-grown c = λ n text has. c.in_ok-number.ensures.grown n text (c.in_ok-mark.ensures.grown n text has)
