-- What a program is given as: an object by itself, or several objects that are joined, each by the bytes of its file. It is the program of
-- their input, or the first that stands against that is told: of each object in turn a fault of its file, or that all have too many
-- sections with it; of several a name that is defined twice; a fault of their instructions and relocations.
use Rattle.std.specs.Prelude.{◌≡◌, ℕ, ◌+◌, Option, Some, None, List, [], ◌∷◌}
use Rattle.std.specs.Option.{option_or}
use Rattle.elf_tables.specs.Header.{e_shnum}
use Rattle.elf_object.specs.Fault.{fault_of as object_fault}
use Rattle.obj_input.specs.Input.{InputParts}
use Rattle.obj_check.specs.Fault.{fault_of}
use Rattle.obj_program.specs.Program.{Program}
use Rattle.obj_items.specs.Added.{unread}
use Rattle.obj_items.specs.Finished.{input_by, unfinished}
use Rattle.obj_items.specs.FromObject.{input_of}
use Rattle.obj_items.specs.ProgramOf.{program_of}
use Rattle.refusals.specs.declared.refusal.Refusal.{Refusal}
use Rattle.refusals.specs.declared.refusal.Refusal.TheVariants.{Object, Items}

pub data Given : Type 0 where
  alone : List ℕ → Given
  joined : List (List ℕ) → Given

-- what is said without the bytes
abbrev pub input_given : Given → InputParts
input_given (alone object) = input_of object
input_given (joined objects) = input_by objects

-- the program, where it is one
abbrev pub program_given : Given → Program
program_given given = program_of (input_given given)

-- an object is a program
pub record IsProgram (object : List ℕ) : Type 0 where
  pub sound : object_fault object ≡ None
  pub right : fault_of (input_of object) ≡ None

-- what stands against the first object that is not added, where objects are added one after another, from the number k on
unfoldable pub first_unread : ℕ → ℕ → List (List ℕ) → Option Refusal
first_unread k sections [] = None
first_unread k sections (object ∷ objects) =
    option_or (unread k sections object) (first_unread (k + 1) (sections + e_shnum object) objects)

-- the first that stands against several objects being a program; they are numbered from 1
abbrev pub first_of_joined : List (List ℕ) → Option Refusal
first_of_joined objects = option_or (first_unread 1 0 objects) (unfinished objects)

-- it is a program
abbrev pub IsGiven : Given → Type 0
IsGiven (alone object) = IsProgram object
IsGiven (joined objects) = first_of_joined objects ≡ None

-- it is none, and this is the first that stands against it
abbrev pub RefusesGiven : Given → Refusal → Type 0
RefusesGiven (alone object) (Object fault) = object_fault object ≡ Some fault
RefusesGiven (alone object) (Items fault) = (object_fault object ≡ None) × (fault_of (input_of object) ≡ Some fault)
RefusesGiven (alone object) other = ⊥
RefusesGiven (joined objects) refusal = first_of_joined objects ≡ Some refusal
