use Rattle.std.proofs.Common.{◌≡◌, ◌+◌, ◌++◌, drop, sum}
use Rattle.rv_image.specs.Form.{profile_for}
use Rattle.cfi_layout.specs.Starts.{starts_from}
use Rattle.cfi_layout.proofs.starts.starts_of.Given as goal

abbrev pub invariant-loop-size : goal.invariant-loop-size
invariant-loop-size l = record {
  so_far : l.starts.items ++ starts_from l.at (drop l.size-index l.sizes) ≡ starts_from (profile_for l.fn.form).units_from l.sizes;
  left : l.at + sum (drop l.size-index l.sizes) ≡ (profile_for l.fn.form).units_from + sum l.sizes;
}
