-- The lines of a map: each place with its gate, in the order of the places.
use Rattle.std.specs.Prelude.{ℕ, ◌+◌, List, [], ◌∷◌}
use Rattle.obj_program.specs.declared.item.Item.{Item}
use Rattle.cfi_map_text.specs.declared.map.MapLine.{MapLine}
use Rattle.cfi_map.specs.GraphAtMap.{ProgramAtMap, gate}

abbrev pub map_line : ProgramAtMap → ℕ → Item → MapLine
map_line layout k item = record { gate = gate layout k; section = item.section; offset = item.offset }

-- the lines of places from index k on
unfoldable pub lines_from : ProgramAtMap → ℕ → List Item → List MapLine
lines_from layout k [] = []
lines_from layout k (item ∷ items) = map_line layout k item ∷ lines_from layout (k + 1) items

abbrev pub map_lines : ProgramAtMap → List MapLine
map_lines layout = lines_from layout 0 layout.program.items
