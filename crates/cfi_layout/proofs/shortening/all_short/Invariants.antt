use Rattle.std.proofs.Common.{◌≡◌, ℕ, not, length, take}
use Rattle.cfi_layout.specs.LongSet.{is_branch}
use Rattle.cfi_layout.specs.Starts.{flag}
use Rattle.cfi_layout.proofs.shortening.all_short.Given as goal

abbrev pub invariant-loop-branch : goal.invariant-loop-branch
invariant-loop-branch l = record {
  len : length l.long.items ≡ l.count;
  flags : (k : ℕ) → flag l.long.items k ≡ not (is_branch (take l.branch-index l.branches) k);
}
