use Rattle.std.proofs.Common.{◌≡◌, ℕ, ◌<◌, Some, slice_get}
use Rattle.cfi_layout.specs.declared.short.Short.{Short}
use Rattle.cfi_layout.specs.LongSet.{IsShort}
use Rattle.cfi_layout.proofs.short.are_shorts.Given as goal

abbrev pub invariant-loop-branch : goal.invariant-loop-branch
invariant-loop-branch l = (i : ℕ) (b : Short) → i < l.branch-index → slice_get l.branches i ≡ Some b → IsShort l.sizes b
