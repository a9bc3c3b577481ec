use Rattle.std.proofs.Common.{◌<◌, ◌≤◌, ◌-◌, ◌+◌, ◌*◌, ℕ}
use Rattle.cfi_verify.proofs.Prelude.{ArePast, profile_in, WordHolds}
use Rattle.cfi_verify.proofs.kinds_hold.words_hold.Given as goal

abbrev pub invariant-loop-index : goal.invariant-loop-index
invariant-loop-index l = record {
  within : l.index ≤ l.count;
  passed : ArePast l.starts.graph.lines l.line ((profile_in l.starts).units_from + 4 * l.index);
  holds : (k : ℕ) → k < l.index → WordHolds (profile_in l.starts) l.starts.listing l.starts.graph k;
}

abbrev pub decreases-loop-index : goal.decreases-loop-index
decreases-loop-index l = l.count - l.index
