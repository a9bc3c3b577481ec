-- The program of an input.
use Rattle.std.specs.Prelude.{List, map}
use Rattle.obj_input.specs.Input.{InputParts, section_count}
use Rattle.obj_input.specs.DataLayout.{data_end}
use Rattle.obj_program.specs.declared.item.Item.{Item}
use Rattle.obj_program.specs.Program.{Program}
use Rattle.obj_items.specs.Outline.{outline}
use Rattle.obj_items.specs.Links.{item_with}
use Rattle.obj_items.specs.InitialData.{init_below, relocs_of}

abbrev pub program_with : InputParts → List Item → Program
program_with input places = record {
  items = map (item_with input places) places;
  init = init_below input (section_count input);
  relocations = relocs_of input places;
  data_end = data_end input;
  funcs = input.funcs;
  names = input.names;
}

unfoldable pub program_of : InputParts → Program
program_of input = program_with input (outline input)
