-- Addresses of code that are no places.
use Rattle.std.specs.Prelude.{ℕ, ℤ, pos, ◌+ℤ◌, Bool, true, not, ◌&&◌, ◌||◌, if◌then◌else◌, Option, Some, None}
use Rattle.std.specs.List.{filter_map, list_all}
use Rattle.least.specs.declared.place.Found.{Found}
use Rattle.least.specs.Nearest.{nearest}
use Rattle.obj_input.specs.declared.parts.Relocation.{Relocation}
use Rattle.obj_input.specs.declared.parts.Definition.{Definition}
use Rattle.obj_input.specs.declared.parts.Definition.TheVariants.{Within}
use Rattle.obj_input.specs.Kinds.{is_table_high, is_transfer, kind_of}
use Rattle.obj_input.specs.Relocation.{is_acting}
use Rattle.obj_input.specs.Input.{InputParts, acting_at, is_code, section_of}
use Rattle.obj_input.specs.Code.{at_whole, is_place}
use Rattle.obj_check.specs.declared.fault.ItemFault.{ItemFault}
use Rattle.obj_check.specs.declared.fault.ItemFault.TheVariants as fault
use Rattle.obj_check.specs.Finding.{found_at, nearest_in, place_of}

abbrev pub points_right : InputParts → Definition → ℤ → Bool
points_right input (Within k value) addend =
    not (is_code (section_of input k) && not (at_whole (is_place (section_of input k)) (pos value +ℤ addend)))
points_right input other addend = true

abbrev pub use_right : InputParts → Relocation → Bool
use_right input u = points_right input u.definition u.addend

-- what fills a slot of the table of addresses
abbrev pub slot_right : InputParts → Definition → Bool
slot_right input (Within k offset) = list_all (use_right input) (acting_at (section_of input k) offset)
slot_right input other = true

-- an address by itself, or by a slot: an instruction that reads a slot is told before the slot
abbrev pub is_wrong_pointer : InputParts → Relocation → Bool
is_wrong_pointer input u =
    (is_acting u && not (is_transfer (kind_of u.number)) && not (use_right input u))
    || (is_table_high (kind_of u.number) && not (slot_right input u.definition))

abbrev pub pointer_found : InputParts → ℕ → Relocation → Option (Found ItemFault)
pointer_found input k u = if is_wrong_pointer input u then Some (found_at k u.offset (fault.BadCodePointer k u.offset)) else None

abbrev pub pointer_in : InputParts → ℕ → Option (Found ItemFault)
pointer_in input k = nearest place_of (filter_map (pointer_found input k) (section_of input k).uses)

unfoldable pub wrong_pointer : InputParts → Option ItemFault
wrong_pointer input = nearest_in input (pointer_in input)
