-- What a unit does from its first word on: within as many steps as it has words it is left, or has
-- ended the run. Once where nothing is changed between its words, and once under any changes of data.
use Rattle.std.specs.Prelude.{◌≡◌, ℕ, ◌^◌, ◌<◌, ◌≤◌, List, [], length, replicate, take}
use Rattle.std.specs.List.{AllByRecursion}
use Rattle.rv_image.specs.MemoryMap.{Profile}
use Rattle.rv_word.specs.Memory.{Memory}
use Rattle.rv_instr.specs.Registers.{Registers}
use Rattle.rv_code.specs.Run.{ByteChange, IsDataChange, run_alone}
use Rattle.rv_code.specs.State.{Hart, Shared, After}
use Rattle.rv_code.specs.declared.turn.Turn.TheVariants.{Ran}
use Rattle.cfi_unit.specs.declared.target_word.TargetWord.TheVariants.{First, Third}
use Rattle.cfi_unit.specs.declared.unit.Unit as U
use Rattle.cfi_unit.specs.declared.unit.Unit.TheVariants as V
use Rattle.cfi_unit.specs.UnitWords.{STORE_MASK, instrs_of, word_count}
use Rattle.cfi_unit.specs.Leads.{HasLabel, destination}
use Rattle.cfi_unit.specs.Shadow.{IsPart, slot, MOST_PENDING}
use Rattle.cfi_unit.specs.Stand.{Stand}
use Rattle.cfi_unit.specs.Context.{Context}
use Rattle.cfi_unit.specs.UnitLaw.{UnitMayStand}
use Rattle.cfi_unit.specs.Between.{Unchanged, DataChanged}
use Rattle.cfi_unit.specs.Leaving.{SameRegisters, SameScratch}
use Rattle.cfi_unit.specs.Templates.{Asks}
use Rattle.cfi_unit.specs.Effect.{UnitDoes}

-- a return asks for a pending site
abbrev pub AsksSite : U.Unit → List ℕ → Type 0
AsksSite V.Return pending = 0 < length pending
AsksSite other pending = Unit {0}

-- a hart is at the first word of a unit that stands in code, x3 past the newest pending site
pub record Enters (p : Profile) (part : ℕ) (image base : Memory) (unit : U.Unit) (at : ℕ) (pending : List ℕ) (h : Hart) (s : Shared) : Type 0 where
  pub own : IsPart p part
  pub bytes : (k : ℕ) → image k < 2 ^ 8
  pub may_stand : UnitMayStand unit at pending
  pub some : AsksSite unit pending
  pub most : length pending ≤ MOST_PENDING
  pub stands : Stand image at (instrs_of unit at)
  pub context : Context part image base pending s
  pub pc : h.pc ≡ at
  pub pointer : h.regs 3 ≡ slot part (length pending)
  pub asks : Asks unit h.regs

-- between two words the run goes on, and the program's registers are the same
pub record Inside (r : Registers) (after : After) : Type 0 where
  pub turn : after.turn ≡ Ran
  pub regs : SameRegisters r after.hart.regs

-- a transfer that makes the mask of stores again behind its check has it in x4 where the check is passed
abbrev pub MakesMask : Memory → Registers → U.Unit → After → Type 0
MakesMask image r (V.LeanIjump rs1 imm label) after = HasLabel image First label (destination r rs1 imm) → after.hart.regs 4 ≡ STORE_MASK
MakesMask image r (V.LeanIcall rs1 imm label) after = HasLabel image Third label (destination r rs1 imm) → after.hart.regs 4 ≡ STORE_MASK
MakesMask image r other after = Unit {0}

-- a unit is done: it has done what its row says, and of the scratch registers it has written those
-- alone into which some of its instructions puts its result, x4 with the mask of stores last
abbrev pub UnitIsDone : Profile → ℕ → Memory → Memory → (Shared → Shared → Type 0) → Hart → Shared → U.Unit → ℕ → List ℕ → After → Type 0
UnitIsDone p part image base may h s unit at pending after =
    UnitDoes p part image base may h s unit at pending after × SameScratch (instrs_of unit at) h.regs after.hart.regs
    × MakesMask image h.regs unit after

-- the run goes on
abbrev pub GoesOn : After → Type 0
GoesOn after = after.turn ≡ Ran

-- after at least one and at most `n` steps of a run something is done, and until then something else
-- holds
pub record DoneWithin (p : Profile) (n : ℕ) (h : Hart) (s : Shared) (changes : List (List ByteChange)) (Until Done : After → Type 0) : Type 0 where
  pub steps : ℕ
  pub some : 0 < steps
  pub few : steps ≤ n
  pub until : (k : ℕ) → k < steps → Until (run_alone p h s (take k changes))
  pub done : Done (run_alone p h s (take steps changes))

-- where nothing is changed between its words
abbrev pub UnitEffect : Type 0
UnitEffect =
    (p : Profile) (part : ℕ) (image base : Memory) (unit : U.Unit) (at : ℕ) (pending : List ℕ) (h : Hart) (s : Shared) →
    Enters p part image base unit at pending h s →
    DoneWithin p (word_count unit) h s (replicate (word_count unit) []) (Inside h.regs) (UnitIsDone p part image base Unchanged h s unit at pending)

-- under any changes of data between its words: so no word of a unit writes a register of the program,
-- but its own instruction's, and where the unit leads depends on no data
abbrev pub UnitKeepsRegisters : Type 0
UnitKeepsRegisters =
    (p : Profile) (part : ℕ) (image base : Memory) (unit : U.Unit) (at : ℕ) (pending : List ℕ) (h : Hart) (s : Shared) →
    Enters p part image base unit at pending h s →
    (changes : List (List ByteChange)) → AllByRecursion (AllByRecursion IsDataChange) changes → word_count unit ≤ length changes →
    DoneWithin p (word_count unit) h s changes (Inside h.regs) (UnitIsDone p part image base DataChanged h s unit at pending)
