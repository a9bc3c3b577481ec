-- Where a value leaves its range first.
use Rattle.std.specs.Prelude.{ℕ, Bool, not, ◌&&◌, if◌then◌else◌, Option, Some, None, option_map, is_none, List}
use Rattle.std.specs.List.{filter_map}
use Rattle.least.specs.declared.place.Place.{Place}
use Rattle.least.specs.declared.place.Found.{Found}
use Rattle.least.specs.First.{first_below}
use Rattle.least.specs.Nearest.{nearer, nearest}
use Rattle.obj_program.specs.declared.item.DataReloc.{DataReloc}
use Rattle.obj_program.specs.declared.item.Item.{Item}
use Rattle.obj_program.specs.Program.{Program, count, is_end, item_of}
use Rattle.obj_program.specs.AtMap.{instr_at}
use Rattle.obj_program.specs.DataAtMap.{is_in_range}

-- an instruction that has no value at a map
abbrev pub is_astray : Program → List ℕ → List ℕ → ℕ → Bool
is_astray program gates words k = not (is_end (item_of program k).kind) && is_none (instr_at program gates words k)

-- what is found at a section and an offset
abbrev pub found_at : ℕ → ℕ → Found (Unit {0})
found_at section offset = record { place = record { section = section; offset = offset }; what = tt }

abbrev pub place_found : Found (Unit {0}) → Place
place_found f = f.place

abbrev pub found_item : Item → Found (Unit {0})
found_item item = found_at item.section item.offset

-- the first such instruction
abbrev pub first_instr : Program → List ℕ → List ℕ → Option (Found (Unit {0}))
first_instr program gates words =
    option_map (λ k. found_item (item_of program k)) (first_below (is_astray program gates words) (count program))

-- a relocation of data whose value leaves its range, and the nearest of them
abbrev pub reloc_astray : List ℕ → DataReloc → Option (Found (Unit {0}))
reloc_astray gates r = if is_in_range gates r then None else Some (found_at r.section r.at)

abbrev pub first_reloc : Program → List ℕ → Option (Found (Unit {0}))
first_reloc program gates = nearest place_found (filter_map (reloc_astray gates) program.relocations)

-- the least place of both
unfoldable pub out_of_range : Program → List ℕ → List ℕ → Option Place
out_of_range program gates words =
    option_map place_found (nearer place_found (first_instr program gates words) (first_reloc program gates))
