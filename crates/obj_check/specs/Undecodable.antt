-- Words of code that are no instructions.
use Rattle.std.specs.Prelude.{ℕ, ◌*◌, Bool, if◌then◌else◌, Option, None, option_map, is_none}
use Rattle.least.specs.declared.place.Found.{Found}
use Rattle.least.specs.First.{first_below}
use Rattle.obj_input.specs.Input.{InputParts, SectionParts, is_code, section_of}
use Rattle.obj_input.specs.Code.{instr, word, word_count}
use Rattle.obj_check.specs.declared.fault.ItemFault.{ItemFault}
use Rattle.obj_check.specs.declared.fault.ItemFault.TheVariants.{Undecodable}
use Rattle.obj_check.specs.Finding.{found_at, nearest_in}

abbrev pub is_undecodable : SectionParts → ℕ → Bool
is_undecodable section i = is_none (instr section i)

-- the first such word of a section of code
abbrev pub undecodable_word : SectionParts → Option ℕ
undecodable_word section = if is_code section then first_below (is_undecodable section) (word_count section) else None

abbrev pub undecodable_in : InputParts → ℕ → Option (Found ItemFault)
undecodable_in input k =
    option_map (λ i. found_at k (4 * i) (Undecodable k (4 * i) (word (section_of input k) i))) (undecodable_word (section_of input k))

unfoldable pub undecodable : InputParts → Option ItemFault
undecodable input = nearest_in input (undecodable_in input)
