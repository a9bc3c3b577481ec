use Rattle.std.proofs.Common.{◌≡◌, ◌≤◌, ◌<◌, ℕ, false}
use Rattle.std.specs.Prelude.{slice_get}
use Rattle.cfi_reader.specs.Entries.{is_started}
use Rattle.cfi_starts.proofs.starts.Starts.before.Given as goal

abbrev pub invariant-loop-at : goal.invariant-loop-at
invariant-loop-at l = record {
  within : l.at ≤ l.index;
  none : (k : ℕ) → l.at ≤ k → k < l.index → is_started (slice_get l.self.listing.entries k) ≡ false;
}

abbrev pub decreases-loop-at : goal.decreases-loop-at
decreases-loop-at l = l.at
