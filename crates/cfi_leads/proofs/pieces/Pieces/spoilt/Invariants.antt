use Rattle.cfi_leads.proofs.Spoiling.{AreSpoiltTo}
use Rattle.cfi_leads.proofs.pieces.Pieces.spoilt.Given as goal

abbrev pub invariant-loop-k : goal.invariant-loop-k
invariant-loop-k l = AreSpoiltTo l.self l.k l.spoilt.items
