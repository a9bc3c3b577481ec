use Rattle.std.proofs.Common.{◌≡◌, ◌≤◌, ◌<◌, ◌-◌, ℕ, Some, true}
use Rattle.std.specs.Prelude.{slice_get}
use Rattle.cfi_reader.specs.Entries.{is_quiet}
use Rattle.cfi_reader.specs.declared.entry.Entry.{Entry}
use Rattle.cfi_scan.proofs.listing.Listing.next_busy.Given as goal

abbrev pub invariant-loop-index : goal.invariant-loop-index
invariant-loop-index l = record {
  low : l.from ≤ l.index;
  high : l.index ≤ l.to;
  quiet : (k : ℕ) (entry : Entry) → l.from ≤ k → k < l.index → slice_get l.entries k ≡ Some entry → is_quiet entry ≡ true;
}

abbrev pub decreases-loop-index : goal.decreases-loop-index
decreases-loop-index l = l.to - l.index
