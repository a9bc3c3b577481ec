use Rattle.std.proofs.Common.{◌≡◌, ◌≤◌, ◌<◌, ◌-◌, ℕ, Some, true}
use Rattle.std.specs.Prelude.{slice_get}
use Rattle.cfi_scan.specs.Calm.{is_calm}
use Rattle.cfi_reader.specs.declared.entry.Entry.{Entry}
use Rattle.cfi_scan.proofs.listing.Listing.next_lively.Given as goal

abbrev pub invariant-loop-index : goal.invariant-loop-index
invariant-loop-index l = record {
  low : l.from ≤ l.index;
  high : l.index ≤ l.to;
  calm : (k : ℕ) (entry : Entry) → l.from ≤ k → k < l.index → slice_get l.entries k ≡ Some entry → is_calm entry ≡ true;
}

abbrev pub decreases-loop-index : goal.decreases-loop-index
decreases-loop-index l = l.to - l.index
