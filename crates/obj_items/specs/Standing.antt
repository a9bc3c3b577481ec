-- Where a place that is no end stands. Only private contracts cite this.
use Rattle.std.specs.Prelude.{◌≡◌, ◌<◌, ◌/◌, true}
use Rattle.obj_input.specs.Input.{InputParts, is_code, section_count, section_of}
use Rattle.obj_input.specs.Code.{word_count}
use Rattle.obj_program.specs.declared.item.Item.{Item}

-- at a word of a section of code that is there
pub record IsInstruction (input : InputParts) (item : Item) : Type 0 where
  pub there : item.section < section_count input
  pub code : is_code (section_of input item.section) ≡ true
  pub below : item.offset / 4 < word_count (section_of input item.section)
