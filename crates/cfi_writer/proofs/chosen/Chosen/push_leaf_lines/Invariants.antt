use Rattle.std.proofs.Common.{◌++◌}
use Rattle.cfi_writer.proofs.Prelude.{count, leaf_lines_from}
use Rattle.cfi_writer.proofs.LineList.{AreLeafLines}
use Rattle.cfi_writer.proofs.chosen.Chosen.push_leaf_lines.Given as goal

abbrev pub invariant-loop-k : goal.invariant-loop-k
invariant-loop-k l = AreLeafLines l.self.layout l.k l.lines.items (l.fn.lines.items ++ leaf_lines_from l.self.layout 0 (count l.self.layout.program))
