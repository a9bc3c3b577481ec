use Rattle.std.proofs.Common.{◌≡◌, ◌≤◌, ◌+◌, ◌*◌, ◌^◌}
use Rattle.obj_input.specs.Input.{is_data_sort}
use Rattle.obj_input.specs.DataLayout.{reach}
use Rattle.rv_image.specs.MemoryMap.{DATA_START}
use Rattle.obj_input.proofs.layout.init_end.Given as goal

abbrev pub invariant-loop-k : goal.invariant-loop-k
invariant-loop-k l = (l.at ≡ reach l.input is_data_sort DATA_START l.k) × (l.at ≤ 2 ^ 16 + l.k * 2 ^ 65)
