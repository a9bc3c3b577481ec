-- What is wrong with the instructions and relocations of an input: the first of eight tests that fails, and of that test the least place.
use Rattle.std.specs.Prelude.{Option}
use Rattle.std.specs.Option.{option_or}
use Rattle.obj_input.specs.Input.{InputParts}
use Rattle.obj_check.specs.declared.fault.ItemFault.{ItemFault}
use Rattle.obj_check.specs.Undecodable.{undecodable}
use Rattle.obj_check.specs.Reserved.{reserved}
use Rattle.obj_check.specs.BadTransfer.{bad_transfer}
use Rattle.obj_check.specs.BadPair.{bad_pair}
use Rattle.obj_check.specs.WrongKind.{wrong_kind}
use Rattle.obj_check.specs.WrongPlace.{wrong_place}
use Rattle.obj_check.specs.Undefined.{undefined}
use Rattle.obj_check.specs.CodePointer.{wrong_pointer}

-- of the instructions
abbrev pub instruction_fault : InputParts → Option ItemFault
instruction_fault input = option_or (undecodable input) (option_or (reserved input) (option_or (bad_transfer input) (bad_pair input)))

-- of the relocations
abbrev pub relocation_fault : InputParts → Option ItemFault
relocation_fault input = option_or (wrong_kind input) (option_or (wrong_place input) (option_or (undefined input) (wrong_pointer input)))

unfoldable pub fault_of : InputParts → Option ItemFault
fault_of input = option_or (instruction_fault input) (relocation_fault input)
