-- What the opening and the closing do, from the first word of each on: each is done within as many
-- steps as it has words. Once where nothing is changed between their words, and once under any changes
-- of data.
use Rattle.std.specs.Prelude.{◌≡◌, ℕ, ◌+◌, ◌-◌, ◌*◌, ◌^◌, ◌<◌, ◌≤◌, List, [], ◌∷◌, length, replicate}
use Rattle.std.specs.List.{AllByRecursion}
use Rattle.rv_image.specs.MemoryMap.{IsFullProfile, Profile, part_of}
use Rattle.rv_word.specs.Memory.{Memory}
use Rattle.rv_instr.specs.Registers.{set_reg}
use Rattle.rv_instr.specs.declared.instr.Instr.TheVariants.{Ecall}
use Rattle.rv_code.specs.Run.{ByteChange, IsDataChange}
use Rattle.rv_code.specs.State.{Hart, Shared, After}
use Rattle.rv_code.specs.Step.{exec}
use Rattle.cfi_unit.specs.declared.unit.Unit.TheVariants as V
use Rattle.cfi_unit.specs.UnitWords.{Fits}
use Rattle.cfi_unit.specs.Prologue.{OPENING, call_at, opening_instrs, closing_instrs}
use Rattle.cfi_unit.specs.Shadow.{IsPart}
use Rattle.cfi_unit.specs.Stand.{Stand}
use Rattle.cfi_unit.specs.Context.{Context}
use Rattle.cfi_unit.specs.Between.{Unchanged, DataChanged}
use Rattle.cfi_unit.specs.Leaving.{LeftTo, SameScratch, pushed}
use Rattle.cfi_unit.specs.EffectLaw.{DoneWithin, GoesOn}

-- where a hart's stack of data ends, by the hart's number
abbrev pub stack_of : ℕ → ℕ
stack_of hart = 2 ^ 28 - 2 ^ 20 * hart

-- the opening is left to the entry, with the closing pending: x2 is the end of the hart's stack, x1 is
-- the closing's address, the program's other registers are the same
abbrev pub OpeningDoes : Profile → Memory → Memory → (Shared → Shared → Type 0) → ℕ → ℕ → Hart → Shared → After → Type 0
OpeningDoes p image base may entry hart h s after =
    LeftTo (part_of hart) image base entry (p.closing ∷ []) (set_reg (set_reg h.regs 2 (stack_of hart)) 1 p.closing)
    (may (pushed (part_of hart) 0 p.closing s)) after

-- and of the scratch registers it has written those alone into which some of its instructions puts its
-- result
abbrev pub OpeningIsDone : Profile → Memory → Memory → (Shared → Shared → Type 0) → ℕ → ℕ → Hart → Shared → After → Type 0
OpeningIsDone p image base may entry hart h s after =
    OpeningDoes p image base may entry hart h s after × SameScratch (opening_instrs p entry) h.regs after.hart.regs

-- the closing makes system call 93, with x17 the only register that it has written
pub record ClosingDoes (p : Profile) (may : Shared → Shared → Type 0) (h : Hart) (s : Shared) (after : After) : Type 0 where
  pub seen : Shared
  pub may_see : may s seen
  pub executed : after ≡ exec p Ecall (record { pc = h.pc + 4; regs = set_reg h.regs 17 93 }) seen

-- a hart, whose number is in x10, is at the opening that stands in code, with nothing on its shadow stack
pub record EntersOpening (p : Profile) (image base : Memory) (entry hart : ℕ) (h : Hart) (s : Shared) : Type 0 where
  pub is : IsFullProfile p
  pub below : hart < p.harts
  pub number : h.regs 10 ≡ hart
  pub fits : Fits (V.Call entry) (call_at p)
  pub stands : Stand image OPENING (opening_instrs p entry)
  pub context : Context (part_of hart) image base [] s
  pub pc : h.pc ≡ OPENING

-- a hart is at a closing that stands in code
pub record EntersClosing (p : Profile) (part : ℕ) (image base : Memory) (at : ℕ) (pending : List ℕ) (h : Hart) (s : Shared) : Type 0 where
  pub own : IsPart p part
  pub stands : Stand image at closing_instrs
  pub context : Context part image base pending s
  pub pc : h.pc ≡ at

abbrev pub OpeningEffect : Type 0
OpeningEffect =
    (p : Profile) (image base : Memory) (entry hart : ℕ) (h : Hart) (s : Shared) → EntersOpening p image base entry hart h s →
    DoneWithin p (length (opening_instrs p entry)) h s (replicate (length (opening_instrs p entry)) []) GoesOn (OpeningIsDone p image base Unchanged entry hart h s)

-- under any changes of data between its words: so x1 and x2 and where it is left to depend on no data
abbrev pub OpeningKeepsRegisters : Type 0
OpeningKeepsRegisters =
    (p : Profile) (image base : Memory) (entry hart : ℕ) (h : Hart) (s : Shared) → EntersOpening p image base entry hart h s →
    (changes : List (List ByteChange)) → AllByRecursion (AllByRecursion IsDataChange) changes → length (opening_instrs p entry) ≤ length changes →
    DoneWithin p (length (opening_instrs p entry)) h s changes GoesOn (OpeningIsDone p image base DataChanged entry hart h s)

abbrev pub ClosingEffect : Type 0
ClosingEffect =
    (p : Profile) (part : ℕ) (image base : Memory) (at : ℕ) (pending : List ℕ) (h : Hart) (s : Shared) →
    EntersClosing p part image base at pending h s →
    DoneWithin p (length closing_instrs) h s (replicate (length closing_instrs) []) GoesOn (ClosingDoes p Unchanged h s)

-- the same
abbrev pub ClosingKeepsRegisters : Type 0
ClosingKeepsRegisters =
    (p : Profile) (part : ℕ) (image base : Memory) (at : ℕ) (pending : List ℕ) (h : Hart) (s : Shared) →
    EntersClosing p part image base at pending h s →
    (changes : List (List ByteChange)) → AllByRecursion (AllByRecursion IsDataChange) changes → length closing_instrs ≤ length changes →
    DoneWithin p (length closing_instrs) h s changes GoesOn (ClosingDoes p DataChanged h s)
