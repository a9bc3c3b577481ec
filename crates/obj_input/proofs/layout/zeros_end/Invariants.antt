use Rattle.std.proofs.Common.{◌≡◌, ◌≤◌, ◌+◌, ◌*◌, ◌^◌}
use Rattle.obj_input.specs.Input.{is_zeros_sort}
use Rattle.obj_input.specs.DataLayout.{init_end, reach}
use Rattle.obj_input.proofs.layout.zeros_end.Given as goal

abbrev pub invariant-loop-k : goal.invariant-loop-k
invariant-loop-k l = (l.at ≡ reach l.input is_zeros_sort (init_end l.input) l.k) × (l.at ≤ 2 ^ 98 + l.k * 2 ^ 65)
