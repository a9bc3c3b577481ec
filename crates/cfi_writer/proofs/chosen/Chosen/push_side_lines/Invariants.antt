use Rattle.std.proofs.Common.{◌++◌, map}
use Rattle.cfi_writer.proofs.Prelude.{class_lines, all_classes, tag}
use Rattle.cfi_writer.proofs.LineList.{AreClassLines}
use Rattle.cfi_writer.proofs.chosen.Chosen.push_side_lines.Given as goal

abbrev pub invariant-loop-i : goal.invariant-loop-i
invariant-loop-i l =
    AreClassLines l.self.layout.gates l.labels l.side.sort (all_classes l.side) l.i l.lines.items
    (l.fn.lines.items ++ class_lines l.self.layout.gates l.labels (map (tag l.side.sort) (all_classes l.side)))
