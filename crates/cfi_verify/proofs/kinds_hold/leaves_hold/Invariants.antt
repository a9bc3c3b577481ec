use Rattle.std.proofs.Common.{◌≡◌, ◌<◌, ℕ, Some, false}
use Rattle.std.specs.Prelude.{slice_get}
use Rattle.cfi_verify.proofs.Prelude.{GraphLine, lacks_end_at, profile_in, IsShutLeaf}
use Rattle.cfi_verify.proofs.kinds_hold.leaves_hold.Given as goal

abbrev pub invariant-loop-k : goal.invariant-loop-k
invariant-loop-k l = record {
  whole : (i : ℕ) (line : GraphLine) → i < l.k → slice_get l.graph.lines i ≡ Some line → (a : ℕ) → lacks_end_at (profile_in l.starts) l.starts.listing a line ≡ false;
  shut : (i : ℕ) (line : GraphLine) → i < l.k → slice_get l.graph.lines i ≡ Some line → IsShutLeaf (profile_in l.starts) l.starts.listing line;
}
