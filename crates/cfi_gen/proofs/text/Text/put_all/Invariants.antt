use Rattle.std.proofs.Common.{◌≡◌, drop, map}
use Rattle.cfi_gen.specs.Lines.{plain}
use Rattle.cfi_gen.specs.Writing.{with_lines, written_in}
use Rattle.cfi_gen.proofs.text.Text.put_all.Given as goal

abbrev pub invariant-loop-instr : goal.invariant-loop-instr
invariant-loop-instr l =
    with_lines (written_in l.self) (map plain (drop l.instr-index l.instrs)) ≡ with_lines (written_in l.initial.self) (map plain l.instrs)
