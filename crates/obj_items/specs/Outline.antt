-- The places of an input in their order: of each section of code its instructions and its end.
use Rattle.std.specs.Prelude.{ℕ, ◌+◌, ◌*◌, false, if◌then◌else◌, None, List, [], ◌∷◌, ◌++◌, unwrap_or}
use Rattle.least.specs.Nearest.{joined}
use Rattle.obj_input.specs.declared.item_kind.ItemKind.TheVariants as is
use Rattle.obj_input.specs.Input.{InputParts, SectionParts, is_code, section_count, section_of}
use Rattle.obj_input.specs.Code.{is_pair, starts_at, word, word_count}
use Rattle.obj_check.specs.Kind.{kind_at}
use Rattle.obj_program.specs.declared.item.Item.{Item}
use Rattle.obj_program.specs.declared.item.Patch.TheVariants as put

-- the word of the instruction that starts at a word; of a pair its JALR
abbrev pub own_word : SectionParts → ℕ → ℕ
own_word section i = if is_pair section i then word section (i + 1) else word section i

-- the instruction that starts at a word, without what its relocation does
abbrev pub start_at : SectionParts → ℕ → ℕ → Item
start_at section k i = record {
  section = k;
  offset = 4 * i;
  kind = unwrap_or (kind_at section i) is.Plain;
  word = own_word section i;
  patch = put.Own;
  target = None;
  taken = false;
}

-- a section's end
abbrev pub end_at : SectionParts → ℕ → Item
end_at section k = record {
  section = k;
  offset = section.size;
  kind = is.End;
  word = 0;
  patch = put.Own;
  target = None;
  taken = false;
}

abbrev pub start_item : SectionParts → ℕ → ℕ → List Item
start_item section k i = if starts_at section i then start_at section k i ∷ [] else []

-- the places of a section of code
abbrev pub code_items : SectionParts → ℕ → List Item
code_items section k = joined (start_item section k) (word_count section) ++ end_at section k ∷ []

abbrev pub section_items : InputParts → ℕ → List Item
section_items input k = if is_code (section_of input k) then code_items (section_of input k) k else []

unfoldable pub outline : InputParts → List Item
outline input = joined (section_items input) (section_count input)
