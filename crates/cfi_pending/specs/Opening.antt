-- The opening of an image whose functions save the sites of their own calls: it sets up x2, the mask of stores and the shadow stack of
-- the hart that runs it, and calls the entry, its own site in x1.
use Rattle.std.specs.Prelude.{◌≡◌, ℕ, ◌+◌, ◌*◌, ◌^◌, ◌<◌, ◌⊎◌, Bool, true, false, List, [], ◌∷◌, ◌++◌, length}
use Rattle.rv_image.specs.MemoryMap.{SHADOW_START, Profile, part_of}
use Rattle.rv_word.specs.Memory.{Memory}
use Rattle.rv_instr.specs.declared.instr.Instr.{Instr}
use Rattle.rv_code.specs.State.{Hart, Shared, After}
use Rattle.rv_code.specs.Step.{step}
use Rattle.rv_code.specs.declared.turn.Turn.TheVariants.{Ran}
use Rattle.cfi_unit.specs.declared.unit.Unit.TheVariants as V
use Rattle.cfi_unit.specs.Context.{Context}
use Rattle.cfi_unit.specs.Prologue.{OPENING, lean_lone_set_up, lean_own_set_up}
use Rattle.cfi_unit.specs.Shadow.{IsPart, slot}
use Rattle.cfi_unit.specs.Stand.{Stand}
use Rattle.cfi_unit.specs.UnitWords.{Fits, STORE_MASK, instrs_of}
use Rattle.cfi_pending.specs.StartLaw.{AtStart, Halted}
use Rattle.cfi_pending.specs.Starts.{fresh}

-- of a lone hart, and of one of several, whose number is in x10
abbrev pub set_up : Bool → List Instr
set_up true = lean_own_set_up
set_up false = lean_lone_set_up

-- where the call of the entry stands, and its site, the closing
abbrev pub call_at : Bool → ℕ
call_at several = OPENING + 4 * length (set_up several)

abbrev pub site_of : Bool → ℕ
site_of several = call_at several + 4

abbrev pub opening_instrs : Bool → ℕ → List Instr
opening_instrs several entry = set_up several ++ instrs_of (V.LinkCall entry) (call_at several)

-- what holds at each word
pub data InLone (part : ℕ) (h : Hart) : Type 0 where
  lone_stack : h.pc ≡ OPENING → part ≡ SHADOW_START → InLone part h
  lone_mask : h.pc ≡ OPENING + 4 → part ≡ SHADOW_START → InLone part h
  lone_less : h.pc ≡ OPENING + 8 → part ≡ SHADOW_START → h.regs 4 ≡ 2 ^ 28 → InLone part h
  lone_shadow : h.pc ≡ OPENING + 12 → part ≡ SHADOW_START → h.regs 4 ≡ STORE_MASK → InLone part h
  lone_slot : h.pc ≡ OPENING + 16 → part ≡ SHADOW_START → h.regs 4 ≡ STORE_MASK → h.regs 3 ≡ SHADOW_START → InLone part h
  lone_call : h.pc ≡ OPENING + 20 → h.regs 4 ≡ STORE_MASK → h.regs 3 ≡ slot part 0 → InLone part h

pub data InOwn (part : ℕ) (h : Hart) : Type 0 where
  own_stack : h.pc ≡ OPENING → part ≡ part_of (h.regs 10) → InOwn part h
  own_mask : h.pc ≡ OPENING + 4 → part ≡ part_of (h.regs 10) → InOwn part h
  own_less : h.pc ≡ OPENING + 8 → part ≡ part_of (h.regs 10) → h.regs 4 ≡ 2 ^ 28 → InOwn part h
  own_offset : h.pc ≡ OPENING + 12 → part ≡ part_of (h.regs 10) → h.regs 4 ≡ STORE_MASK → InOwn part h
  own_end : h.pc ≡ OPENING + 16 → part ≡ part_of (h.regs 10) → h.regs 4 ≡ STORE_MASK → InOwn part h
  own_shadow : h.pc ≡ OPENING + 20 → part ≡ part_of (h.regs 10) → h.regs 4 ≡ STORE_MASK → InOwn part h
  own_part_offset : h.pc ≡ OPENING + 24 → part ≡ part_of (h.regs 10) → h.regs 4 ≡ STORE_MASK → h.regs 3 ≡ SHADOW_START → InOwn part h
  own_part : h.pc ≡ OPENING + 28 → part ≡ SHADOW_START + h.regs 31 → h.regs 4 ≡ STORE_MASK → h.regs 3 ≡ SHADOW_START → InOwn part h
  own_slot : h.pc ≡ OPENING + 32 → h.regs 3 ≡ part → h.regs 4 ≡ STORE_MASK → InOwn part h
  own_call : h.pc ≡ OPENING + 36 → h.regs 4 ≡ STORE_MASK → h.regs 3 ≡ slot part 0 → InOwn part h

abbrev pub InSetUp : Bool → ℕ → Hart → Type 0
InSetUp true part h = InOwn part h
InSetUp false part h = InLone part h

-- a step stays in the opening, or calls the entry
pub data OpeningOutcome (several : Bool) (part : ℕ) (image base : Memory) (entry : ℕ) (after : After) : Type 0 where
  stays : after.turn ≡ Ran → Context part image base [] after.shared → OPENING < after.hart.pc → InSetUp several part after.hart →
      OpeningOutcome several part image base entry after
  calls : after.turn ≡ Ran → after.hart.pc ≡ entry →
      AtStart true part image base fresh (site_of several ∷ []) after.hart after.shared ⊎ Halted part image base after.hart after.shared →
      OpeningOutcome several part image base entry after

abbrev pub OpeningLaw : Type 0
OpeningLaw =
    (several : Bool) (p : Profile) (part : ℕ) (image base : Memory) (entry : ℕ) (h : Hart) (s : Shared) →
    IsPart p part → ((k : ℕ) → image k < 2 ^ 8) → Fits (V.LinkCall entry) (call_at several) → Stand image OPENING (opening_instrs several entry) →
    Context part image base [] s → InSetUp several part h → OpeningOutcome several part image base entry (step p h s)
