-- Transfers that no unit does, and direct ones that go to no instruction's start.
use Rattle.std.specs.Prelude.{ℕ, ◌*◌, Bool, not, ◌&&◌, ◌||◌, if◌then◌else◌, Option, None, option_map, is_none}
use Rattle.least.specs.declared.place.Found.{Found}
use Rattle.least.specs.First.{first_below}
use Rattle.obj_input.specs.Input.{InputParts, is_code, section_of}
use Rattle.obj_input.specs.Code.{is_inside, word_count}
use Rattle.obj_check.specs.declared.fault.ItemFault.{ItemFault}
use Rattle.obj_check.specs.declared.fault.ItemFault.TheVariants.{BadTransfer}
use Rattle.obj_check.specs.Kind.{kind_at}
use Rattle.obj_check.specs.Target.{direct_at, goes_right}
use Rattle.obj_check.specs.Finding.{found_at, nearest_in}

-- the instruction that starts at a word
abbrev pub is_wrong_transfer : InputParts → ℕ → ℕ → Bool
is_wrong_transfer input k i =
    not (is_inside (section_of input k) i)
    && (is_none (kind_at (section_of input k) i) || not (goes_right input k i (direct_at (section_of input k) i)))

abbrev pub wrong_transfer : InputParts → ℕ → Option ℕ
wrong_transfer input k =
    if is_code (section_of input k) then first_below (is_wrong_transfer input k) (word_count (section_of input k)) else None

abbrev pub bad_transfer_in : InputParts → ℕ → Option (Found ItemFault)
bad_transfer_in input k = option_map (λ i. found_at k (4 * i) (BadTransfer k (4 * i))) (wrong_transfer input k)

unfoldable pub bad_transfer : InputParts → Option ItemFault
bad_transfer input = nearest_in input (bad_transfer_in input)
