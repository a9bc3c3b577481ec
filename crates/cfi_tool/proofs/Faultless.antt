-- A count of faults that is constantly 0.
use Rattle.std.proofs.Common.{inl, inr, arith}
use Rattle.tool_io.specs.Faults.{Rose}

-- it never rose
pub never_rose : Rose 0 0 → ⊥
never_rose (inl more) = omega (arith, more)
never_rose (inr most) = omega (arith, most)
