-- The program that several objects are: that of their joined input, where no name is defined twice and the input has no fault.
use Rattle.std.specs.Prelude.{◌≡◌, ℕ, ◌+◌, List, map, Option, Some, None, option_map, Result, Ok, Err}
use Rattle.std.specs.Option.{option_or}
use Rattle.obj_input.specs.Input.{InputParts}
use Rattle.obj_join.specs.Duplicate.{duplicate}
use Rattle.obj_join.specs.Joined.{among, joined_input}
use Rattle.obj_check.specs.Fault.{fault_of}
use Rattle.obj_check.specs.declared.fault.ItemFault.{ItemFault}
use Rattle.obj_check.specs.declared.fault.ItemFault.TheVariants as fault
use Rattle.obj_program.specs.Program.{Program}
use Rattle.obj_link.specs.SaidOf.{said_by, said_of}
use Rattle.obj_items.specs.ProgramOf.{program_of}
use Rattle.rv_word.specs.declared.end.End.{End}
use Rattle.rv_word.specs.declared.end.End.TheVariants.{Fault, NoMemory}
use Rattle.refusals.specs.declared.refusal.Refusal.{Refusal}
use Rattle.refusals.specs.declared.refusal.Refusal.TheVariants.{Duplicate, Items, UndefinedIn}

-- the joined input of objects, by the bytes of their files
abbrev pub input_by : List (List ℕ) → InputParts
input_by objects = joined_input (map said_of objects)

-- a fault of it as it is told: a symbol by its number in its object, and the object's number from 1
abbrev pub refusal_in : List (List ℕ) → ItemFault → Refusal
refusal_in objects (fault.Undefined n) = UndefinedIn (among (map said_of objects) n).1 ((among (map said_of objects) n).0 + 1)
refusal_in objects other = Items other

-- the first that stands against objects that are added: a name that is defined twice, or else a fault of their input
abbrev pub unfinished : List (List ℕ) → Option Refusal
unfinished objects =
    option_or (option_map Duplicate (duplicate (said_by objects).symbols)) (option_map (refusal_in objects) (fault_of (input_by objects)))

-- what an input of objects comes to: its program exactly where it has no fault
abbrev pub Tells : List (List ℕ) → InputParts → Result Program (End Refusal) → Type 0
Tells objects input (Ok program) = (fault_of input ≡ None) × (program ≡ program_of input)
Tells objects input (Err (Fault refusal)) = option_map (refusal_in objects) (fault_of input) ≡ Some refusal
Tells objects input (Err NoMemory) = Unit {0}

-- what objects come to: their program exactly where nothing stands against that
abbrev pub IsFinished : List (List ℕ) → Result Program (End Refusal) → Type 0
IsFinished objects (Ok program) = (unfinished objects ≡ None) × (program ≡ program_of (input_by objects))
IsFinished objects (Err (Fault refusal)) = unfinished objects ≡ Some refusal
IsFinished objects (Err NoMemory) = Unit {0}
