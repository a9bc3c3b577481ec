-- AUIPCs without a relocation or without the JALR that theirs asks for, and low parts without their high part.
use Rattle.std.specs.Prelude.{ℕ, pos, ◌*◌, ◌/◌, Bool, true, false, not, ◌==◌, ◌&&◌, ◌||◌, if◌then◌else◌, Option, Some, None, option_map, length}
use Rattle.std.specs.Ordering.{int_eq}
use Rattle.std.specs.List.{filter_map}
use Rattle.least.specs.declared.place.Found.{Found}
use Rattle.least.specs.First.{first_below}
use Rattle.least.specs.Nearest.{nearer, nearest}
use Rattle.obj_input.specs.declared.parts.Relocation.{Relocation}
use Rattle.obj_input.specs.declared.parts.Definition.{Definition}
use Rattle.obj_input.specs.declared.parts.Definition.TheVariants.{Within, Missing}
use Rattle.obj_input.specs.Kinds.{is_relative_low, kind_of}
use Rattle.obj_input.specs.Input.{InputParts, SectionParts, acting_at, is_code, section_of}
use Rattle.obj_input.specs.Code.{has_high_part, has_pair_target, instr, is_auipc, is_pair, is_start, word_count}
use Rattle.obj_check.specs.declared.fault.ItemFault.{ItemFault}
use Rattle.obj_check.specs.declared.fault.ItemFault.TheVariants as fault
use Rattle.obj_check.specs.Finding.{found_at, nearest_in, place_of}

-- an AUIPC without a relocation, or one whose relocation asks for a JALR that is not there
abbrev pub is_wrong_auipc : SectionParts → ℕ → Bool
is_wrong_auipc section i =
    is_auipc (instr section i)
    && (length (acting_at section (4 * i)) == 0 || has_pair_target section i && not (is_pair section i))

abbrev pub wrong_auipc : SectionParts → Option ℕ
wrong_auipc section = if is_code section then first_below (is_wrong_auipc section) (word_count section) else None

abbrev pub auipc_in : InputParts → ℕ → Option (Found ItemFault)
auipc_in input k = option_map (λ i. found_at k (4 * i) (fault.BadPair k (4 * i))) (wrong_auipc (section_of input k))

-- an AUIPC stands at an offset of a section
abbrev pub is_auipc_at : SectionParts → ℕ → Bool
is_auipc_at section at = is_code section && is_start section at && is_auipc (instr section (at / 4))

-- an AUIPC with a relative high part stands at an offset of a section
abbrev pub has_relative_high : SectionParts → ℕ → Bool
has_relative_high section at = is_auipc_at section at && has_high_part section at

-- what a low part names: an AUIPC of its own section; what is defined nowhere is refused otherwise
abbrev pub names_high : InputParts → ℕ → Definition → Bool
names_high input k (Within j value) = j == k && has_relative_high (section_of input k) value
names_high input k (Missing n) = true
names_high input k other = false

abbrev pub is_wrong_low : InputParts → ℕ → Relocation → Bool
is_wrong_low input k u =
    is_relative_low (kind_of u.number) && (not (int_eq u.addend (pos 0)) || not (names_high input k u.definition))

abbrev pub low_at : InputParts → ℕ → Relocation → Option (Found ItemFault)
low_at input k u = if is_wrong_low input k u then Some (found_at k u.offset (fault.BadPair k u.offset)) else None

abbrev pub low_in : InputParts → ℕ → Option (Found ItemFault)
low_in input k = nearest place_of (filter_map (low_at input k) (section_of input k).uses)

abbrev pub bad_pair_in : InputParts → ℕ → Option (Found ItemFault)
bad_pair_in input k = nearer place_of (auipc_in input k) (low_in input k)

unfoldable pub bad_pair : InputParts → Option ItemFault
bad_pair input = nearest_in input (bad_pair_in input)
