use Rattle.std.proofs.Common.{◌≡◌, ◌++◌, drop}
use Rattle.cfi_layout.specs.LongSet.{sizes_where}
use Rattle.cfi_layout.specs.Starts.{flag}
use Rattle.cfi_layout.proofs.starts.sizes_of.Given as goal

abbrev pub invariant-loop-k : goal.invariant-loop-k
invariant-loop-k l = l.left.items ++ sizes_where (flag l.long) l.k (drop l.k l.sizes) ≡ sizes_where (flag l.long) 0 l.sizes
