-- What reading the program of an object comes to: the program where the object has no fault, else that fault. Want of memory
-- says nothing.
use Rattle.std.specs.Prelude.{◌≡◌, Some, None, Result, Ok, Err}
use Rattle.obj_input.specs.Input.{InputParts}
use Rattle.obj_check.specs.Fault.{fault_of}
use Rattle.obj_program.specs.Program.{Program}
use Rattle.rv_word.specs.declared.end.End.{End}
use Rattle.rv_word.specs.declared.end.End.TheVariants.{Fault, NoMemory}
use Rattle.obj_check.specs.declared.fault.ItemFault.{ItemFault}
use Rattle.obj_items.specs.ProgramOf.{program_of}

abbrev pub IsTold : InputParts → Result Program (End ItemFault) → Type 0
IsTold input (Ok program) = (fault_of input ≡ None) × (program ≡ program_of input)
IsTold input (Err (Fault fault)) = fault_of input ≡ Some fault
IsTold input (Err NoMemory) = Unit {0}
