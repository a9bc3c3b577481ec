use Rattle.std.proofs.Common.{◌≤◌, ◌<◌, ◌-◌, ℕ, ◌+◌, ◌*◌}
use Rattle.cfi_verify.proofs.Prelude.{HoldsAt, profile_in}
use Rattle.cfi_verify.proofs.all_hold.unlisted_hold.Given as goal

abbrev pub invariant-loop-index : goal.invariant-loop-index
invariant-loop-index l = record {
  low : l.from ≤ l.index;
  holds : (k : ℕ) → l.from ≤ k → k < l.index → HoldsAt (profile_in l.starts) l.starts.listing l.starts.graph ((profile_in l.starts).units_from + 4 * k);
}

abbrev pub decreases-loop-index : goal.decreases-loop-index
decreases-loop-index l = l.to - l.index
