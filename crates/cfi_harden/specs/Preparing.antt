-- What the steps of preparing a request come to: the program that is given, then its entry and its closed graph.
use Rattle.std.specs.Prelude.{◌≡◌, ℕ, List, Option, Some, None, IsSome, Result, Ok, Err}
use Rattle.rv_image.specs.declared.version.GraphVersion.{GraphVersion}
use Rattle.rv_word.specs.declared.end.End.{End}
use Rattle.rv_word.specs.declared.end.End.TheVariants.{Fault, NoMemory}
use Rattle.obj_program.specs.Program.{Program}
use Rattle.cfi_closed.specs.Closed.{ClosedGraph}
use Rattle.cfi_flow.specs.Entry.{entry_place}
use Rattle.refusals.specs.declared.refusal.Refusal.{Refusal}
use Rattle.refusals.specs.declared.refusal.Refusal.TheVariants.{NoEntry, Policy}
use Rattle.cfi_harden.specs.Given.{Given, IsGiven, RefusesGiven, program_given}
use Rattle.cfi_harden.specs.Prepared.{IsClosedUnder, IsWrongPolicy}

-- the program that is given, or the first that stands against there being one
abbrev pub Reads : Given → Result Program (End Refusal) → Type 0
Reads given (Ok program) = IsGiven given × (program ≡ program_given given)
Reads given (Err (Fault refusal)) = RefusesGiven given refusal
Reads given (Err NoMemory) = Unit {0}

-- where a program is entered, with its closed graph for a version of graphs. Only a private contract cites this
abbrev pub Enters : GraphVersion → Program → List ℕ → Option (List ℕ) → Result (ℕ × ClosedGraph) (End Refusal) → Type 0
Enters version program entry policy (Ok (at, closed)) = (entry_place program entry ≡ Some at) × IsClosedUnder version program policy closed
Enters version program entry policy (Err (Fault NoEntry)) = entry_place program entry ≡ None
Enters version program entry policy (Err (Fault (Policy n))) = IsSome (entry_place program entry) × IsWrongPolicy program policy n
Enters version program entry policy (Err NoMemory) = Unit {0}
Enters version program entry policy (Err other) = ⊥
