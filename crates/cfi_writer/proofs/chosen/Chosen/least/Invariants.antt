use Rattle.std.proofs.Common.{◌≡◌, ℕ}
use Rattle.cfi_writer.proofs.Prelude.{level, lowest, offset_at}
use Rattle.cfi_writer.proofs.chosen.Chosen.least.Given as goal

abbrev pub invariant-loop-i : goal.invariant-loop-i
invariant-loop-i l = l.low ≡ lowest (λ (j : ℕ). level (offset_at l.self j)) l.k l.i
