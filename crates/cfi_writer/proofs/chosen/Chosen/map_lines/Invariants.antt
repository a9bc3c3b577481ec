use Rattle.cfi_writer.proofs.PlaceLines.{ArePlaces}
use Rattle.cfi_writer.proofs.chosen.Chosen.map_lines.Given as goal

abbrev pub invariant-loop-k : goal.invariant-loop-k
invariant-loop-k l = ArePlaces l.self.layout l.k l.lines.items
