-- What a program holds beside the symbols of its input and the relocations of data. Only private contracts cite this.
use Rattle.std.specs.Prelude.{◌≡◌, ℕ, map}
use Rattle.obj_input.specs.Input.{InputParts, section_count}
use Rattle.obj_input.specs.DataLayout.{data_layout_of}
use Rattle.obj_program.specs.Program.{AreInOrder, place_of}
use Rattle.obj_items.specs.declared.program.Held.{Held}
use Rattle.obj_items.specs.InitialData.{init_below}
use Rattle.obj_items.specs.Links.{item_with}
use Rattle.obj_items.specs.Outline.{outline}

-- that of an input
pub record AreContents (input : InputParts) (held : Held) : Type 0 where
  pub items : held.items.items ≡ map (item_with input (outline input)) (outline input)
  pub init : held.init ≡ init_below input (section_count input)
  pub found : (section offset : ℕ) → place_of held.items.items section offset ≡ place_of (outline input) section offset
  pub order : AreInOrder held.items.items
  pub data_end : held.data_end ≡ (data_layout_of input).data_end
