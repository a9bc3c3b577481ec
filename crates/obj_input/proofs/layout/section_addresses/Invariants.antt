use Rattle.std.proofs.Common.{◌≡◌, ◌≤◌, ◌+◌, ◌*◌, ◌^◌}
use Rattle.obj_input.specs.Input.{is_data_sort, is_zeros_sort}
use Rattle.obj_input.specs.Listed.{listed}
use Rattle.obj_input.specs.InOrder.{AreSmall}
use Rattle.obj_input.specs.DataLayout.{init_end, reach, section_address}
use Rattle.rv_image.specs.MemoryMap.{DATA_START}
use Rattle.obj_input.proofs.layout.section_addresses.Given as goal

abbrev pub invariant-loop-k : goal.invariant-loop-k
invariant-loop-k l =
    (l.init ≡ reach l.input is_data_sort DATA_START l.k) × (l.init ≤ 2 ^ 16 + l.k * 2 ^ 65)
    × (l.rest ≡ reach l.input is_zeros_sort (init_end l.input) l.k) × (l.rest ≤ 2 ^ 98 + l.k * 2 ^ 65)
    × (l.addresses.items ≡ listed (section_address l.input) l.k) × AreSmall l.addresses.items
