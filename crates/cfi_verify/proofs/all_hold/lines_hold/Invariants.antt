use Rattle.cfi_verify.proofs.Prelude.{HasPassed, profile_in}
use Rattle.cfi_verify.proofs.all_hold.lines_hold.Given as goal

abbrev pub invariant-loop-k : goal.invariant-loop-k
invariant-loop-k l = HasPassed (profile_in l.starts) l.starts.listing l.starts.graph l.k l.next
