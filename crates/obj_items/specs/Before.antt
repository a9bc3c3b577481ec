-- Places that are listed in their order so far.
use Rattle.std.specs.Prelude.{◌≡◌, ℕ, ◌<◌, true, List, length, slice_index_or}
use Rattle.obj_program.specs.declared.item.Item.{Item}
use Rattle.obj_program.specs.Program.{AreInOrder, is_before, no_item}

-- each of some places is before a section and an offset
abbrev pub AreBefore : List Item → ℕ → ℕ → Type 0
AreBefore items section offset = (i : ℕ) → i < length items → is_before (slice_index_or items i no_item) section offset ≡ true

-- a place there may follow them
pub record MayFollow (items : List Item) (section offset : ℕ) : Type 0 where
  pub in_order : AreInOrder items
  pub before : AreBefore items section offset
