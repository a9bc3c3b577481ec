-- The opening of an image, whoever saves the sites of calls. A lean one, of an image whose functions save the sites of their own calls,
-- calls the entry with one word: so the shadow stack is still empty at the entry, and the closing's address is in x1 alone.
use Rattle.std.specs.Prelude.{◌≡◌, ℕ, ◌-◌, ◌<◌, Bool, true, false, List, [], ◌∷◌, length}
use Rattle.rv_image.specs.MemoryMap.{IsLeanProfile, IsProfile, Profile, part_of}
use Rattle.rv_word.specs.Memory.{Memory}
use Rattle.rv_instr.specs.Registers.{set_reg}
use Rattle.rv_code.specs.State.{Hart, Shared, After}
use Rattle.rv_code.specs.Step.{step}
use Rattle.cfi_unit.specs.declared.unit.Unit.TheVariants as V
use Rattle.cfi_unit.specs.UnitWords.{Fits, STORE_MASK}
use Rattle.cfi_unit.specs.Prologue.{OPENING, call_at, opening_instrs}
use Rattle.cfi_unit.specs.Stand.{Stand}
use Rattle.cfi_unit.specs.Context.{Context}
use Rattle.cfi_unit.specs.Between.{Unchanged}
use Rattle.cfi_unit.specs.Leaving.{LeftTo}
use Rattle.cfi_unit.specs.PrologueEffect.{stack_of}
use Rattle.cfi_runs.specs.Within.{Within}

-- the opening's call of the entry, by who saves the sites of calls
abbrev pub EntryFits : Bool → Profile → ℕ → Type 0
EntryFits false p entry = Fits (V.Call entry) (call_at p)
EntryFits true p entry = Fits (V.LinkCall entry) p.opening_call

-- a hart, whose number is in x10, is at the opening that stands in code, with nothing on its shadow stack
pub record AtOpening (p : Profile) (image base : Memory) (entry hart : ℕ) (h : Hart) (s : Shared) : Type 0 where
  pub is : IsProfile p
  pub below : hart < p.harts
  pub number : h.regs 10 ≡ hart
  pub fits : EntryFits p.callee_saves p entry
  pub stands : Stand image OPENING (opening_instrs p entry)
  pub context : Context (part_of hart) image base [] s
  pub pc : h.pc ≡ OPENING

-- the sites that are pending at the entry: the closing, where the opening has saved it
abbrev pub entry_pending : Bool → ℕ → List ℕ
entry_pending false site = site ∷ []
entry_pending true site = []

-- a lean opening is left to the entry, and writes no memory: x2 is the end of the hart's stack, x1 the closing's address, x3 the first
-- slot of the hart's part, x4 the mask of stores, the program's other registers are the same
abbrev pub LeanOpeningDoes : Profile → Memory → Memory → ℕ → ℕ → Hart → Shared → After → Type 0
LeanOpeningDoes p image base entry hart h s after =
    LeftTo (part_of hart) image base entry [] (set_reg (set_reg h.regs 2 (stack_of hart)) 1 p.closing) (Unchanged s) after
    × (after.hart.regs 4 ≡ STORE_MASK)

abbrev pub LeanOpeningRuns : Type 0
LeanOpeningRuns =
    (p : Profile) (image base : Memory) (entry hart : ℕ) (h : Hart) (s : Shared) → IsLeanProfile p → AtOpening p image base entry hart h s →
    Within p (length (opening_instrs p entry) - 1) (LeanOpeningDoes p image base entry hart h s) (step p h s)
