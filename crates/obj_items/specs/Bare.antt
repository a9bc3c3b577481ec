-- An input without its relocations, names and functions: it says where data stand and what is code. Only private contracts cite
-- this.
use Rattle.std.specs.Prelude.{ℕ, List, [], map, get_or}
use Rattle.obj_input.specs.Input.{InputParts, SectionParts, no_section}
use Rattle.obj_program.specs.declared.item.Item.{Item}
use Rattle.obj_program.specs.declared.item.DataReloc.{DataReloc}
use Rattle.obj_items.specs.InitialData.{relocs_in}

abbrev pub bare_section : SectionParts → SectionParts
bare_section section = record { sort = section.sort; size = section.size; align = section.align; content = section.content; uses = [] }

unfoldable pub bare : InputParts → InputParts
bare input = record { sections = map bare_section input.sections; blocks = input.blocks; names = []; funcs = [] }

-- the relocations of data that those of a list of sections are, where an input says where they stand
abbrev pub listed_relocs : InputParts → List Item → List SectionParts → ℕ → List DataReloc
listed_relocs input places sections k = relocs_in input places k (get_or sections k no_section)
