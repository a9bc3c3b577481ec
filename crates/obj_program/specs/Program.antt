-- A program: the instructions and data of an object, in which places stand for addresses. A place is an
-- instruction's start or the end of a section of code, and is named by its index in the order of sections and offsets.
use Rattle.std.specs.Prelude.{◌≡◌, ℕ, ◌<◌, nat_lt, Bool, true, false, ◌==◌, ◌&&◌, ◌||◌, Option, None, List, length, position, slice_index_or}
use Rattle.obj_input.specs.declared.parts.Func.{Func}
use Rattle.obj_input.specs.declared.item_kind.ItemKind.{ItemKind}
use Rattle.obj_input.specs.declared.item_kind.ItemKind.TheVariants as is
use Rattle.obj_input.specs.Input.{Named}
use Rattle.obj_program.specs.declared.item.DataReloc.{DataReloc}
use Rattle.obj_program.specs.declared.item.Item.{Item}
use Rattle.obj_program.specs.declared.item.Patch.TheVariants as put

pub record Program : Type 0 where
  -- the places in their order
  pub items : List Item
  -- the initialised data before relocations, from DATA_START on, gaps zero
  pub init : List ℕ
  -- the relocations of initialised data, in the order of sections and then of their tables
  pub relocations : List DataReloc
  -- the address where data end, those without bytes in the file among them
  pub data_end : ℕ
  -- the symbols of functions in code, in the order of their table
  pub funcs : List Func
  -- the symbols that have names, in the order in which they are looked for
  pub names : List Named

abbrev pub no_item : Item
no_item = record { section = 0; offset = 0; kind = is.End; word = 0; patch = put.Own; target = None; taken = false }

abbrev pub item_of : Program → ℕ → Item
item_of program k = slice_index_or program.items k no_item

abbrev pub count : Program → ℕ
count program = length program.items

abbrev pub is_end : ItemKind → Bool
is_end is.End = true
is_end other = false

-- a lesser section is before, and in one section a lesser offset
abbrev pub is_before : Item → ℕ → ℕ → Bool
is_before item section offset = nat_lt item.section section || item.section == section && nat_lt item.offset offset

-- each place is before all that follow it
abbrev pub AreInOrder : List Item → Type 0
AreInOrder items =
    (i j : ℕ) → i < j → j < length items →
    is_before (slice_index_or items i no_item) (slice_index_or items j no_item).section (slice_index_or items j no_item).offset ≡ true

-- the index of the place with a section and an offset
abbrev pub is_spot : ℕ → ℕ → Item → Bool
is_spot section offset item = item.section == section && item.offset == offset

abbrev pub place_of : List Item → ℕ → ℕ → Option ℕ
place_of items section offset = position (is_spot section offset) items
