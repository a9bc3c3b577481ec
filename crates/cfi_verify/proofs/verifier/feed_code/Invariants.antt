use Rattle.std.proofs.Common.{length}
use Rattle.cfi_verify.proofs.Fed.{IsFed}
use Rattle.cfi_verify.proofs.verifier.feed_code.Given as goal

abbrev pub invariant-loop-rest : goal.invariant-loop-rest
invariant-loop-rest g l = IsFed l.code l.rest l.fn.scan l.scan

abbrev pub decreases-loop-rest : goal.decreases-loop-rest
decreases-loop-rest g l = length l.rest
