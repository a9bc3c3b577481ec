use Rattle.std.proofs.Common.{◌≡◌, ℕ, ◌<◌, length}
use Rattle.cfi_map.proofs.Prelude.{whole_at, joined}
use Rattle.cfi_map.proofs.spacing.whole_parts.Given as goal

abbrev pub invariant-loop-k : goal.invariant-loop-k
invariant-loop-k l = record {
  len : length l.whole.items ≡ l.k;
  each : (k : ℕ) → k < l.k → whole_at l.whole.items k ≡ joined l.leads.program l.firsts l.placement.long k;
}
