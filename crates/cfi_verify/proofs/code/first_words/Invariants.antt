use Rattle.std.proofs.Common.{◌≡◌, ◌≤◌, ◌++◌, length}
use Rattle.cfi_rules.specs.Split.{code_words}
use Rattle.cfi_verify.proofs.code.first_words.Given as goal

abbrev pub invariant-loop-rest : goal.invariant-loop-rest
invariant-loop-rest l = (l.window ++ code_words l.rest ≡ code_words l.bytes) × (length l.window ≤ 21)

abbrev pub decreases-loop-rest : goal.decreases-loop-rest
decreases-loop-rest l = length l.rest
