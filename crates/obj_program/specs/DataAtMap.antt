-- Initialised data at a map.
use Rattle.std.specs.Prelude.{ℕ, Bool, if◌then◌else◌, Option, Some, None, List, ◌++◌, take, drop, length}
use Rattle.std.specs.List.{fold, list_all}
use Rattle.rv_reloc.specs.Data.{patched, takes}
use Rattle.obj_program.specs.declared.item.DataReloc.{DataReloc}
use Rattle.obj_program.specs.Program.{Program}
use Rattle.obj_program.specs.AtMap.{value_at}

-- a relocation takes its value
abbrev pub is_in_range : List ℕ → DataReloc → Bool
is_in_range gates r = takes r.patch (value_at gates r.value)

-- data after a relocation
abbrev pub with_reloc : List ℕ → List ℕ → DataReloc → List ℕ
with_reloc gates bytes r = take r.offset bytes ++ patched r.patch (value_at gates r.value) (drop r.offset bytes)

-- the initialised data after all relocations in their order; none where a value leaves its range
unfoldable pub data_at : Program → List ℕ → Option (List ℕ)
data_at program gates =
    if list_all (is_in_range gates) program.relocations
    then Some (fold (with_reloc gates) program.init program.relocations) else None

-- how many bytes initialised data have
abbrev pub init_size : Program → ℕ
init_size program = length program.init
