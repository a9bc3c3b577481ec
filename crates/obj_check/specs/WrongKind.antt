-- Relocations of a kind that their section does not take.
use Rattle.std.specs.Prelude.{ℕ, Bool, true, false, not, if◌then◌else◌, Option, Some, None}
use Rattle.std.specs.List.{filter_map}
use Rattle.least.specs.declared.place.Found.{Found}
use Rattle.least.specs.Nearest.{nearest}
use Rattle.obj_input.specs.declared.parts.Relocation.{Relocation}
use Rattle.obj_input.specs.declared.reloc_kind.RelocKind.{RelocKind}
use Rattle.obj_input.specs.declared.reloc_kind.RelocKind.TheVariants.{Nothing, InData, Unknown}
use Rattle.obj_input.specs.Kinds.{kind_of}
use Rattle.obj_input.specs.Input.{InputParts, SectionParts, is_code, section_of}
use Rattle.obj_check.specs.declared.fault.ItemFault.{ItemFault}
use Rattle.obj_check.specs.declared.fault.ItemFault.TheVariants as fault
use Rattle.obj_check.specs.Finding.{found_at, nearest_in, place_of}

abbrev pub is_for_code : RelocKind → Bool
is_for_code (InData patch) = false
is_for_code Unknown = false
is_for_code other = true

abbrev pub is_for_data : RelocKind → Bool
is_for_data Nothing = true
is_for_data (InData patch) = true
is_for_data other = false

abbrev pub is_wrong_kind : SectionParts → Relocation → Bool
is_wrong_kind section u = not (if is_code section then is_for_code (kind_of u.number) else is_for_data (kind_of u.number))

abbrev pub kind_found : SectionParts → ℕ → Relocation → Option (Found ItemFault)
kind_found section k u = if is_wrong_kind section u then Some (found_at k u.offset (fault.RelocKind k u.offset u.number)) else None

abbrev pub kind_in : InputParts → ℕ → Option (Found ItemFault)
kind_in input k = nearest place_of (filter_map (kind_found (section_of input k) k) (section_of input k).uses)

unfoldable pub wrong_kind : InputParts → Option ItemFault
wrong_kind input = nearest_in input (kind_in input)
