use Rattle.std.proofs.Common.{◌++◌}
use Rattle.cfi_map.specs.GraphAtMap.{place_lines}
use Rattle.cfi_writer.proofs.LineList.{AreLines}
use Rattle.cfi_writer.proofs.chosen.Chosen.push_lean_lines.Given as goal

abbrev pub invariant-loop-k : goal.invariant-loop-k
invariant-loop-k l =
    AreLines l.self.layout l.self.labels l.k l.lines.items
    (l.fn.lines.items ++ place_lines l.self.layout l.self.labels 0 l.self.layout.program.items)
