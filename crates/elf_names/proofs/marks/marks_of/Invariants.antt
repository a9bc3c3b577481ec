use Rattle.std.proofs.Common.{◌≡◌, ◌+◌, ◌*◌, length}
use Rattle.elf_names.specs.Marks.{AreMarks, IsMark, ending}
use Rattle.elf_names.specs.Texts.{Grows}
use Rattle.elf_names.proofs.marks.marks_of.Given as goal

abbrev pub invariant-loop-k : goal.invariant-loop-k
invariant-loop-k l =
    Grows l.initial.texts l.texts × AreMarks l.texts l.table l.marks.items × (length l.marks.items ≡ l.k + 1) × IsMark l.texts (ending (64 * l.k) l.table) l.mark
