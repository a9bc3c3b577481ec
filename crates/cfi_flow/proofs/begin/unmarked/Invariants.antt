use Rattle.std.proofs.Common.{◌≡◌, ℕ, length, slice_index_or, false}
use Rattle.cfi_flow.proofs.begin.unmarked.Given as goal

abbrev pub invariant-loop-k : goal.invariant-loop-k
invariant-loop-k l = (length l.marks.items ≡ l._k) × ((k : ℕ) → slice_index_or l.marks.items k false ≡ false)
