-- What relocations make of an instruction: its patch, its target, and whether its address is taken.
use Rattle.std.specs.Prelude.{ℕ, ℤ, pos, ◌+ℤ◌, ◌/◌, Bool, false, ◌==◌, ◌&&◌, if◌then◌else◌, Option, Some, None, option_map, option_and_then, is_some, unwrap_or, List, [], ◌∷◌}
use Rattle.std.specs.List.{list_any}
use Rattle.least.specs.First.{first_below}
use Rattle.obj_input.specs.declared.parts.Relocation.{Relocation}
use Rattle.obj_input.specs.declared.parts.Definition.{Definition}
use Rattle.obj_input.specs.declared.parts.Definition.TheVariants.{Within}
use Rattle.obj_input.specs.declared.reloc_kind.RelocKind.{RelocKind}
use Rattle.obj_input.specs.declared.reloc_kind.RelocKind.TheVariants.{High, LowI, LowS, RelativeHigh, TableHigh, RelativeLowI, RelativeLowS}
use Rattle.obj_input.specs.Kinds.{kind_of, takes_address}
use Rattle.obj_input.specs.Input.{InputParts, acting_at, section_count, section_of}
use Rattle.obj_input.specs.Code.{natural}
use Rattle.obj_check.specs.declared.target.Direct.{Direct}
use Rattle.obj_check.specs.declared.target.Aim.{Aim}
use Rattle.obj_check.specs.declared.target.Aim.TheVariants.{At}
use Rattle.obj_check.specs.Target.{aim_at, direct_at}
use Rattle.obj_program.specs.declared.item.Item.{Item}
use Rattle.obj_program.specs.declared.item.Patch.{Patch}
use Rattle.obj_program.specs.declared.item.Patch.TheVariants as put
use Rattle.obj_program.specs.Program.{is_end, place_of}
use Rattle.obj_items.specs.Values.{place_at, use_value}

-- the place of the AUIPC that a low part names
abbrev pub named_place : List Item → Definition → ℕ
named_place places (Within k value) = unwrap_or (place_of places k value) 0
named_place places other = 0

abbrev pub patch_by : InputParts → List Item → Relocation → RelocKind → Patch
patch_by input places u High = put.High (use_value input places u)
patch_by input places u LowI = put.Low (use_value input places u)
patch_by input places u LowS = put.Low (use_value input places u)
patch_by input places u RelativeHigh = put.RelativeHigh (use_value input places u)
patch_by input places u TableHigh = put.RelativeHigh (use_value input places u)
patch_by input places u RelativeLowI = put.RelativeLow (named_place places u.definition)
patch_by input places u RelativeLowS = put.RelativeLow (named_place places u.definition)
patch_by input places u other = put.Own

-- of the first relocation that stands there; an input without a fault has no other
abbrev pub patch_from : InputParts → List Item → List Relocation → Patch
patch_from input places [] = put.Own
patch_from input places (u ∷ uses) = patch_by input places u (kind_of u.number)

-- where a direct transfer goes
abbrev pub aimed_place : List Item → Aim → Option ℕ
aimed_place places (At k z) = place_at places k z
aimed_place places other = None

abbrev pub target_of : InputParts → List Item → ℕ → ℕ → Option ℕ
target_of input places k i =
    option_and_then (λ (d : Direct). aimed_place places (aim_at input k i d)) (direct_at (section_of input k) i)

-- the section and the offset of an address that a relocation takes
abbrev pub spot_of : Definition → ℤ → Option (ℕ × ℕ)
spot_of (Within k value) addend = option_map (λ n. (k, n)) (natural (pos value +ℤ addend))
spot_of other addend = None

abbrev pub pointed : Relocation → Option (ℕ × ℕ)
pointed u = if takes_address (kind_of u.number) then spot_of u.definition u.addend else None

abbrev pub is_the : ℕ → ℕ → Option (ℕ × ℕ) → Bool
is_the k offset None = false
is_the k offset (Some spot) = k == spot.0 && offset == spot.1

abbrev pub takes : ℕ → ℕ → Relocation → Bool
takes k offset u = is_the k offset (pointed u)

abbrev pub some_takes : InputParts → ℕ → ℕ → ℕ → Bool
some_takes input k offset j = list_any (takes k offset) (section_of input j).uses

-- some relocation takes the address of a place
unfoldable pub is_taken : InputParts → ℕ → ℕ → Bool
is_taken input k offset = is_some (first_below (some_takes input k offset) (section_count input))

-- an instruction with all three
abbrev pub linked : InputParts → List Item → Item → Item
linked input places item = record item {
  patch = patch_from input places (acting_at (section_of input item.section) item.offset);
  target = target_of input places item.section (item.offset / 4);
  taken = is_taken input item.section item.offset;
}

-- an end stays as it is
abbrev pub item_with : InputParts → List Item → Item → Item
item_with input places item = if is_end item.kind then item else linked input places item
