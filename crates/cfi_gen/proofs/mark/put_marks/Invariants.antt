use Rattle.std.proofs.Common.{◌≡◌, ◌++◌, map, take}
use Rattle.cfi_gen.specs.Lines.{mark_at}
use Rattle.cfi_gen.proofs.mark.put_marks.Given as goal

abbrev pub invariant-loop-mark : goal.invariant-loop-mark
invariant-loop-mark l = l.relocs.items ≡ l.initial.relocs.items ++ map (mark_at l.at) (take l.mark-index l.marks)
