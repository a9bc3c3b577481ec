use Rattle.std.proofs.Common.{◌≡◌, ◌++◌, map, take}
use Rattle.cfi_writer.proofs.Prelude.{labels_of, lead_unit}
use Rattle.cfi_writer.proofs.chosen.Chosen.push_words.Given as goal

abbrev pub invariant-loop-j : goal.invariant-loop-j
invariant-loop-j l = l.units.items ≡ l.fn.units.items ++ map lead_unit (take l.j (labels_of l.self.labels l.self.layout.closed.sides l.k))
