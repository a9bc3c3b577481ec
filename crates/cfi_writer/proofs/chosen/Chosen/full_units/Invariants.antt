use Rattle.cfi_writer.proofs.UnitList.{AreFirst}
use Rattle.cfi_writer.proofs.chosen.Chosen.full_units.Given as goal

abbrev pub invariant-loop-k : goal.invariant-loop-k
invariant-loop-k l = AreFirst l.self l.k l.units.items
