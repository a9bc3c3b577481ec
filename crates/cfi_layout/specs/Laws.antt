-- What holds of the long set.
use Rattle.std.specs.Prelude.{ℕ, ◌≤◌, Bool, List}
use Rattle.cfi_layout.specs.declared.short.Short.{Short}
use Rattle.cfi_layout.specs.Starts.{code_size}
use Rattle.cfi_layout.specs.LongSet.{HoldsAllForced, IsLongSet, sizes_under}

-- no closed set gives less code
abbrev pub LeastCode : Type 0
LeastCode =
    (from : ℕ) (branches : List Short) (sizes : List ℕ) (long other : ℕ → Bool) → IsLongSet from branches sizes long → HoldsAllForced from branches sizes other →
    code_size from (sizes_under long branches sizes) ≤ code_size from (sizes_under other branches sizes)
