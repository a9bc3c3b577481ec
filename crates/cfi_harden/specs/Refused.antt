-- When a request is refused: the refusal stands, and none before it does.
use Rattle.std.specs.Prelude.{◌≡◌, ◌⊎◌, None, IsSome, Result, Ok, Err}
use Rattle.rv_word.specs.declared.end.End.{End}
use Rattle.rv_word.specs.declared.end.End.TheVariants.{Fault, NoMemory}
use Rattle.cfi_flow.specs.Entry.{entry_place}
use Rattle.refusals.specs.declared.refusal.Refusal.{Refusal}
use Rattle.refusals.specs.declared.refusal.Refusal.TheVariants.{Object, ObjectIn, TooManySections, Duplicate, Items, UndefinedIn, NoEntry, Policy, CodeTooLarge, DataTooLarge, RelocRange}
use Rattle.cfi_harden.specs.Fitting.{RefusesPlaced}
use Rattle.cfi_harden.specs.Given.{IsGiven, RefusesGiven}
use Rattle.cfi_writer.specs.Hardened.{HardenedParts}
use Rattle.cfi_harden.specs.Hardened.{IsHardened, IsHardenedOf, IsWrittenOf}
use Rattle.cfi_harden.specs.Request.{ProgramRequest, Request, program_request}
use Rattle.cfi_harden.specs.Prepared.{IsPreparedOf, IsWrongPolicy, PreparedParts}

-- of a program that is prepared
abbrev pub RefusesLate : ProgramRequest → Refusal → Type 0
RefusesLate request refusal = (p : PreparedParts) × IsPreparedOf request p × RefusesPlaced p refusal

-- of a program
abbrev pub RefusesProgram : ProgramRequest → Refusal → Type 0
RefusesProgram request NoEntry = entry_place request.program request.entry ≡ None
RefusesProgram request (Policy n) = IsSome (entry_place request.program request.entry) × IsWrongPolicy request.program request.policy n
RefusesProgram request (CodeTooLarge bytes) = RefusesLate request (CodeTooLarge bytes)
RefusesProgram request (DataTooLarge init end) = RefusesLate request (DataTooLarge init end)
RefusesProgram request (RelocRange section offset) = RefusesLate request (RelocRange section offset)
RefusesProgram request other = ⊥

-- of what is given: it is no program, or its program is refused
abbrev pub Refuses : Request → Refusal → Type 0
Refuses request refusal = RefusesGiven request.given refusal ⊎ (IsGiven request.given × RefusesProgram (program_request request) refusal)

-- a refusal that comes before anything is placed
abbrev pub IsEarly : Refusal → Type 0
IsEarly (Object fault) = Unit {0}
IsEarly (ObjectIn fault k) = Unit {0}
IsEarly (TooManySections n) = Unit {0}
IsEarly (Duplicate name) = Unit {0}
IsEarly (Items fault) = Unit {0}
IsEarly (UndefinedIn symbol k) = Unit {0}
IsEarly NoEntry = Unit {0}
IsEarly (Policy n) = Unit {0}
IsEarly other = ⊥

-- what hardening a request comes to; only want of memory is free
abbrev pub HardensProgram : ProgramRequest → Result HardenedParts (End Refusal) → Type 0
HardensProgram request (Ok hardened) = IsHardenedOf request hardened
HardensProgram request (Err (Fault refusal)) = RefusesProgram request refusal
HardensProgram request (Err NoMemory) = Unit {0}

abbrev pub Hardens : Request → Result HardenedParts (End Refusal) → Type 0
Hardens request (Ok hardened) = IsHardened request hardened
Hardens request (Err (Fault refusal)) = Refuses request refusal
Hardens request (Err NoMemory) = Unit {0}

-- what a request comes to before anything is placed
abbrev pub PreparesProgram : ProgramRequest → Result PreparedParts (End Refusal) → Type 0
PreparesProgram request (Ok prepared) = IsPreparedOf request prepared
PreparesProgram request (Err (Fault refusal)) = RefusesProgram request refusal × IsEarly refusal
PreparesProgram request (Err NoMemory) = Unit {0}

-- what a prepared program comes to
abbrev pub HardensPrepared : PreparedParts → Result HardenedParts (End Refusal) → Type 0
HardensPrepared p (Ok hardened) = IsWrittenOf p hardened
HardensPrepared p (Err (Fault refusal)) = RefusesPlaced p refusal
HardensPrepared p (Err NoMemory) = Unit {0}
