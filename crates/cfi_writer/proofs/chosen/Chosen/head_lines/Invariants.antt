use Rattle.cfi_map.specs.GraphAtMap.{head_lines}
use Rattle.cfi_writer.proofs.LineList.{AreSideLines}
use Rattle.cfi_writer.proofs.chosen.Chosen.head_lines.Given as goal

abbrev pub invariant-loop-j : goal.invariant-loop-j
invariant-loop-j l = AreSideLines l.self.layout.gates l.self.labels l.self.layout.closed.sides l.j l.lines.items (head_lines l.self.layout l.self.labels)
