-- Places that are given their links one after another. Only private contracts cite this.
use Rattle.std.specs.Prelude.{◌≡◌, ℕ, ◌<◌, ◌≤◌, List, length, slice_index_or}
use Rattle.obj_input.specs.Input.{InputParts}
use Rattle.obj_program.specs.declared.item.Item.{Item}
use Rattle.obj_program.specs.Program.{AreInOrder, no_item, place_of}
use Rattle.obj_items.specs.Links.{item_with}

-- the first `n` have what relocations make of them among `outline`, the others are those of `outline`, and each is found where it stood
pub record AreLinkedTo (input : InputParts) (outline places : List Item) (n : ℕ) : Type 0 where
  pub size : length places ≡ length outline
  pub done : (i : ℕ) → i < n → i < length outline → slice_index_or places i no_item ≡ item_with input outline (slice_index_or outline i no_item)
  pub left : (i : ℕ) → n ≤ i → slice_index_or places i no_item ≡ slice_index_or outline i no_item
  pub found : (section offset : ℕ) → place_of places section offset ≡ place_of outline section offset
  pub order : AreInOrder places
