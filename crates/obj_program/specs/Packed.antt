-- How a program keeps a place: a target stands where the number of a patch would. But for `is_lone`, which a caller is asked,
-- only a model and private contracts cite this.
use Rattle.std.specs.Prelude.{ℕ, ℤ, pos, ◌+ℤ◌, ◌*ℤ◌, ◌^◌, Bool, not, ◌||◌, if◌then◌else◌, Option, Some, None, is_some}
use Rattle.obj_program.specs.declared.item.Item.{Item}
use Rattle.obj_program.specs.declared.item.Patch.{Patch}
use Rattle.obj_program.specs.declared.item.Patch.TheVariants as put
use Rattle.obj_program.specs.declared.item.Value.{Value}
use Rattle.obj_program.specs.declared.item.Value.TheVariants.{Number, GateOf}
use Rattle.obj_program.specs.declared.packed.Form.{Form}
use Rattle.obj_program.specs.declared.packed.Form.TheVariants as form
use Rattle.obj_program.specs.Sound.{is_own}

-- a number by its lowest 64 bits and those above
abbrev pub number_in : ℕ → ℤ → ℤ
number_in low high = high *ℤ pos (2 ^ 64) +ℤ pos low

abbrev pub value_in : Bool → ℕ → ℤ → Value
value_in gate low high = if gate then GateOf low else Number (number_in low high)

abbrev pub patch_in : Form → Bool → ℕ → ℤ → Patch
patch_in form.Own gate low high = put.Own
patch_in form.High gate low high = put.High (value_in gate low high)
patch_in form.Low gate low high = put.Low (value_in gate low high)
patch_in form.RelativeHigh gate low high = put.RelativeHigh (value_in gate low high)
patch_in form.RelativeLow gate low high = put.RelativeLow low

abbrev pub target_in : Bool → ℕ → Option ℕ
target_in aimed target = if aimed then Some target else None

-- no instruction has both an immediate by a relocation and a place where it goes
abbrev pub may_be_together : Patch → Option ℕ → Bool
may_be_together patch target = is_own patch || not (is_some target)

abbrev pub is_lone : Item → Bool
is_lone item = may_be_together item.patch item.target
