use Rattle.std.proofs.Common.{ℕ, ◌<◌}
use Rattle.obj_items.proofs.Prelude.{section_of, IsSection}
use Rattle.obj_items.proofs.ranges.sections_fit.Given as goal

abbrev pub invariant-loop-k : goal.invariant-loop-k
invariant-loop-k l = (j : ℕ) → j < l.k → IsSection (section_of l.input j)
