-- Symbols that a relocation names and that are defined nowhere.
use Rattle.std.specs.Prelude.{ℕ, if◌then◌else◌, Option, Some, None, option_map, option_and_then, List, length, slice_get}
use Rattle.least.specs.Least.{least_below}
use Rattle.obj_input.specs.declared.parts.Relocation.{Relocation}
use Rattle.obj_input.specs.declared.parts.Definition.{Definition}
use Rattle.obj_input.specs.declared.parts.Definition.TheVariants.{Missing}
use Rattle.obj_input.specs.Relocation.{is_acting}
use Rattle.obj_input.specs.Input.{InputParts, section_count, section_of}
use Rattle.obj_check.specs.declared.fault.ItemFault.{ItemFault}
use Rattle.obj_check.specs.declared.fault.ItemFault.TheVariants as fault

abbrev pub missing_symbol : Definition → Option ℕ
missing_symbol (Missing n) = Some n
missing_symbol other = None

abbrev pub missing_in_use : Relocation → Option ℕ
missing_in_use u = if is_acting u then missing_symbol u.definition else None

abbrev pub missing_at : List Relocation → ℕ → Option ℕ
missing_at uses j = option_and_then missing_in_use (slice_get uses j)

-- the least number of some relocations
abbrev pub missing_among : List Relocation → Option ℕ
missing_among uses = least_below (missing_at uses) (length uses)

abbrev pub missing_in : InputParts → ℕ → Option ℕ
missing_in input k = missing_among (section_of input k).uses

unfoldable pub undefined : InputParts → Option ItemFault
undefined input = option_map (λ n. fault.Undefined n) (least_below (missing_in input) (section_count input))
