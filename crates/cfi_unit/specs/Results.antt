-- Into which registers of the program the words of what stands at an address put their results: one
-- list for each place, with what each word of it writes. So a step writes no other register of the
-- program, whatever other harts do between two steps.
use Rattle.std.specs.Prelude.{◌≡◌, ℕ, ◌+◌, ◌-◌, ◌*◌, ◌==◌, ◌||◌, Bool, true, false, if◌then◌else◌, List, [], ◌∷◌, ◌++◌, map, replicate, slice_get, Option, Some, None}
use Rattle.rv_image.specs.MemoryMap.{Profile}
use Rattle.rv_word.specs.Memory.{Memory}
use Rattle.rv_instr.specs.Registers.{Registers}
use Rattle.rv_instr.specs.Reserved.{is_reserved}
use Rattle.rv_instr.specs.declared.instr.Instr.{Instr}
use Rattle.rv_code.specs.State.{Hart, Shared}
use Rattle.rv_code.specs.Step.{step}
use Rattle.cfi_unit.specs.declared.unit.Unit as U
use Rattle.cfi_unit.specs.declared.unit.Unit.TheVariants as V
use Rattle.cfi_unit.specs.declared.unit.SystemOp.TheVariants as S
use Rattle.cfi_unit.specs.UnitWords.{word_count}
use Rattle.cfi_unit.specs.Place.{Place, handler, opening, closing, body, place_instrs}
use Rattle.cfi_unit.specs.Stand.{Stand}
use Rattle.cfi_unit.specs.Context.{Context}
use Rattle.cfi_unit.specs.Leaving.{result_register}
use Rattle.cfi_unit.specs.InPlace.{InPlace}
use Rattle.cfi_unit.specs.UnitLaw.{MayStand}

-- a register, if the program has it: neither x0, which stays zero, nor one that units keep for themselves
abbrev pub if_of_program : Option ℕ → Option ℕ
if_of_program None = None
if_of_program (Some rd) = if rd == 0 || is_reserved rd then None else Some rd

-- the register of the program that an instruction puts its result into
abbrev pub program_result : Instr → Option ℕ
program_result i = if_of_program (result_register i)

-- the register of the program that a unit's last word puts its result into: a plain unit's
-- instruction its own, a system call x10, a call x1
abbrev pub last_result : U.Unit → Option ℕ
last_result (V.Plain instr) = program_result instr
last_result (V.System S.Ecall) = Some 10
last_result (V.Guarded numbers) = Some 10
last_result (V.Call target) = Some 1
last_result (V.Icall rs1 imm label) = Some 1
last_result (V.LinkCall target) = Some 1
last_result (V.LeanIcall rs1 imm label) = Some 1
last_result other = None

-- no word of a unit but the last puts a result into a register of the program
abbrev pub unit_results : U.Unit → List (Option ℕ)
unit_results unit = replicate (word_count unit - 1) None ++ last_result unit ∷ []

-- setting up both stacks writes x2 alone
abbrev pub set_up_results : Profile → List (Option ℕ)
set_up_results p =
    if p.harts == 1 then Some 2 ∷ None ∷ None ∷ [] else Some 2 ∷ None ∷ Some 2 ∷ None ∷ None ∷ None ∷ None ∷ []

-- in lean images too: x4 is no register of the program
abbrev pub lean_set_up_results : Profile → List (Option ℕ)
lean_set_up_results p =
    if p.harts == 1 then Some 2 ∷ None ∷ None ∷ None ∷ None ∷ []
    else Some 2 ∷ None ∷ None ∷ None ∷ Some 2 ∷ None ∷ None ∷ None ∷ None ∷ []

abbrev pub opening_results : Bool → Profile → ℕ → List (Option ℕ)
opening_results false p entry = set_up_results p ++ unit_results (V.Call entry)
opening_results true p entry = lean_set_up_results p ++ unit_results (V.LinkCall entry)

-- the opening then calls; the closing puts its call's number into x17, and its call an answer into x10
abbrev pub place_results : Profile → Place → List (Option ℕ)
place_results p handler = None ∷ []
place_results p (opening entry) = opening_results p.callee_saves p entry
place_results p closing = Some 17 ∷ Some 10 ∷ []
place_results p (body unit) = unit_results unit

-- what each instruction of a place puts its result into is what the place's list says
abbrev pub ResultsListed : Type 0
ResultsListed = (p : Profile) (place : Place) (at : ℕ) → map program_result (place_instrs p place at) ≡ place_results p place

-- the word at a pc puts its result into this register of the program
abbrev pub PutsInto : Profile → Place → ℕ → ℕ → ℕ → Type 0
PutsInto p place at pc reg = (k : ℕ) × (pc ≡ at + 4 * k) × (slice_get (place_results p place) k ≡ Some (Some reg))

-- a step from a word of what stands at `at` leaves every other register of the program as it was, and x0:
-- it asks nothing of data, nor of the other harts' parts, so both may change between two steps
abbrev pub RegistersStay : Type 0
RegistersStay =
    (p : Profile) (part : ℕ) (image base : Memory) (place : Place) (at : ℕ) (pending : List ℕ) (r : Registers) (h : Hart) (s : Shared) →
    MayStand p place at pending → Stand image at (place_instrs p place at) → Context part image base pending s →
    InPlace p part image place at pending r h s.memory →
    (reg : ℕ) → is_reserved reg ≡ false → (PutsInto p place at h.pc reg → ⊥) → (step p h s).hart.regs reg ≡ h.regs reg
