-- The tests of places, by their names in the code. Only private contracts cite this.
use Rattle.std.specs.Prelude.{ℕ, Option}
use Rattle.least.specs.declared.place.Found.{Found}
use Rattle.obj_input.specs.Input.{InputParts}
use Rattle.obj_check.specs.declared.fault.ItemFault.{ItemFault}
use Rattle.obj_check.specs.declared.order.Rule.{Rule}
use Rattle.obj_check.specs.declared.order.Rule.TheVariants.{Undecodable, Reserved, Transfer, Pair, Kind, Place, Pointer}
use Rattle.obj_check.specs.Undecodable.{undecodable_in}
use Rattle.obj_check.specs.Reserved.{reserved_in}
use Rattle.obj_check.specs.BadTransfer.{bad_transfer_in}
use Rattle.obj_check.specs.BadPair.{bad_pair_in}
use Rattle.obj_check.specs.WrongKind.{kind_in}
use Rattle.obj_check.specs.WrongPlace.{place_in}
use Rattle.obj_check.specs.CodePointer.{pointer_in}

abbrev pub found_in : InputParts → Rule → ℕ → Option (Found ItemFault)
found_in input Undecodable = undecodable_in input
found_in input Reserved = reserved_in input
found_in input Transfer = bad_transfer_in input
found_in input Pair = bad_pair_in input
found_in input Kind = kind_in input
found_in input Place = place_in input
found_in input Pointer = pointer_in input
