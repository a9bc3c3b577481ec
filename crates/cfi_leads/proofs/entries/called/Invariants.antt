use Rattle.cfi_leads.proofs.Called.{AreMarked}
use Rattle.cfi_leads.proofs.entries.called.Given as goal

abbrev pub invariant-loop-k : goal.invariant-loop-k
invariant-loop-k l = AreMarked l.items l.k l.flags.items
