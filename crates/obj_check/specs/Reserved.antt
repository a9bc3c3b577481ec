-- Instructions that name a register which the units keep for themselves. A pair names those of both its words.
use Rattle.std.specs.Prelude.{ℕ, ◌+◌, ◌*◌, Bool, false, not, ◌&&◌, ◌||◌, if◌then◌else◌, Option, Some, None, option_map, is_some}
use Rattle.least.specs.declared.place.Found.{Found}
use Rattle.least.specs.First.{first_below}
use Rattle.rv_instr.specs.declared.instr.Instr.{Instr}
use Rattle.rv_instr.specs.Operands.{names}
use Rattle.rv_instr.specs.Reserved.{is_reserved}
use Rattle.obj_input.specs.Input.{InputParts, SectionParts, is_code, section_of}
use Rattle.obj_input.specs.Code.{instr, is_inside, is_pair, word_count}
use Rattle.obj_check.specs.declared.fault.ItemFault.{ItemFault}
use Rattle.obj_check.specs.declared.fault.ItemFault.TheVariants.{ReservedRegister}
use Rattle.obj_check.specs.Finding.{found_at, nearest_in}

abbrev pub is_reserved_name : Instr → ℕ → Bool
is_reserved_name i r = is_reserved r && names i r

-- some register is reserved, and named
unfoldable pub some_reserved : Instr → Bool
some_reserved i = is_some (first_below (is_reserved_name i) 32)

abbrev pub names_reserved : Option Instr → Bool
names_reserved (Some i) = some_reserved i
names_reserved None = false

-- the instruction that starts at a word
abbrev pub is_reserved_at : SectionParts → ℕ → Bool
is_reserved_at section i =
    not (is_inside section i)
    && (names_reserved (instr section i) || is_pair section i && names_reserved (instr section (i + 1)))

abbrev pub reserved_word : SectionParts → Option ℕ
reserved_word section = if is_code section then first_below (is_reserved_at section) (word_count section) else None

abbrev pub reserved_in : InputParts → ℕ → Option (Found ItemFault)
reserved_in input k = option_map (λ i. found_at k (4 * i) (ReservedRegister k (4 * i))) (reserved_word (section_of input k))

unfoldable pub reserved : InputParts → Option ItemFault
reserved input = nearest_in input (reserved_in input)
