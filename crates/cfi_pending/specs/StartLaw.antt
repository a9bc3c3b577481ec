-- The unit law with all pending sites: what one step from any word of a unit does, from a start at which the unit may stand.
use Rattle.std.specs.Prelude.{◌≡◌, ℕ, Bool, ◌^◌, ◌<◌, ◌≤◌, ◌⊎◌, true, false, List, [], ◌∷◌, length}
use Rattle.rv_image.specs.MemoryMap.{Profile}
use Rattle.rv_word.specs.Memory.{Memory}
use Rattle.rv_instr.specs.Registers.{Registers}
use Rattle.rv_code.specs.State.{Hart, Shared, After}
use Rattle.rv_code.specs.Step.{step}
use Rattle.rv_code.specs.declared.turn.Turn.TheVariants.{Ran}
use Rattle.cfi_unit.specs.declared.unit.Unit as U
use Rattle.cfi_unit.specs.Context.{Context, Kept}
use Rattle.cfi_unit.specs.InPlace.{InUnit}
use Rattle.cfi_unit.specs.Leads.{by_label}
use Rattle.cfi_unit.specs.MaskLaw.{writes_mask}
use Rattle.cfi_unit.specs.Prologue.{OPENING}
use Rattle.cfi_unit.specs.Shadow.{IsPart, MOST_PENDING, slot}
use Rattle.cfi_unit.specs.Stand.{Stand}
use Rattle.cfi_unit.specs.Templates.{is_full, is_lean}
use Rattle.cfi_unit.specs.UnitLaw.{ReturnsTo, UnitEnds}
use Rattle.cfi_unit.specs.UnitWords.{Fits, STORE_MASK, after_unit, instrs_of}
use Rattle.cfi_pending.specs.PendingLeads.{PendingLeads}
use Rattle.cfi_pending.specs.Starts.{Start, StandsBy, fresh, may_stand, next_start}

-- each pending site is an instruction's address
abbrev pub AreSites : List ℕ → Type 0
AreSites [] = Unit {0}
AreSites (site ∷ pending) = ReturnsTo (site ∷ pending) × AreSites pending

-- which units stand in code in which x4 holds the mask of stores, and in code in which it does not
abbrev pub stands_in : Bool → U.Unit → Bool
stands_in true unit = is_lean unit
stands_in false unit = is_full unit

-- at a start: x3 points past the newest site that the shadow stack holds, and x4 holds the mask of stores where it is to
pub record AtStart (masked : Bool) (part : ℕ) (image base : Memory) (start : Start) (pending : List ℕ) (h : Hart) (s : Shared) : Type 0 where
  pub stacked : List ℕ
  pub stands : StandsBy start h.regs pending stacked
  pub pointer : h.regs 3 ≡ slot part (length stacked)
  pub context : Context part image base stacked s
  pub mask : masked ≡ true → h.regs 4 ≡ STORE_MASK

-- at a word of a unit, whose start has these registers: at a fresh start x1 is as it was there, and in each unit but those that make
-- the mask again x4 holds it
pub record InBody (masked : Bool) (part : ℕ) (image base : Memory) (unit : U.Unit) (at : ℕ) (start : Start) (pending : List ℕ) (r : Registers) (h : Hart) (s : Shared) : Type 0 where
  pub stacked : List ℕ
  pub stands : StandsBy start r pending stacked
  pub few : length stacked ≤ MOST_PENDING
  pub word : InUnit part image unit at stacked r h s.memory
  pub context : Context part image base stacked s
  pub link : start ≡ fresh → h.regs 1 ≡ r 1
  pub mask : masked ≡ true → writes_mask unit ≡ false → h.regs 4 ≡ STORE_MASK

-- the run is at a handler
pub record Halted (part : ℕ) (image base : Memory) (h : Hart) (s : Shared) : Type 0 where
  pub low : h.pc < OPENING
  pub stacked : List ℕ
  pub context : Context part image base stacked s

-- a step stays in the unit, leaves it where it leads with its pending sites, or ends as the unit may end
pub data StartOutcome (masked : Bool) (part : ℕ) (image base : Memory) (unit : U.Unit) (at : ℕ) (start : Start) (pending : List ℕ) (r : Registers) (after : After) : Type 0 where
  stays : after.turn ≡ Ran → at < after.hart.pc → InBody masked part image base unit at start pending r after.hart after.shared →
      StartOutcome masked part image base unit at start pending r after
  leaves : (newer : List ℕ) → after.turn ≡ Ran → PendingLeads (by_label image) unit (after_unit unit at) pending r newer after.hart.pc →
      AtStart masked part image base (next_start start unit) newer after.hart after.shared ⊎ Halted part image base after.hart after.shared →
      StartOutcome masked part image base unit at start pending r after
  ends : (stacked : List ℕ) → UnitEnds unit at after.turn → Kept part image base stacked after.shared.memory →
      StartOutcome masked part image base unit at start pending r after

abbrev pub StartLaw : Type 0
StartLaw =
    (masked : Bool) (p : Profile) (part : ℕ) (image base : Memory) (unit : U.Unit) (at : ℕ) (start : Start) (pending : List ℕ) (r : Registers) (h : Hart) (s : Shared) →
    IsPart p part → ((k : ℕ) → image k < 2 ^ 8) → stands_in masked unit ≡ true → may_stand start unit ≡ true → Fits unit at → AreSites pending →
    Stand image at (instrs_of unit at) → InBody masked part image base unit at start pending r h s →
    StartOutcome masked part image base unit at start pending r (step p h s)

-- and at its first word what a start has is what the law asks
abbrev pub BodyBegins : Type 0
BodyBegins =
    (masked : Bool) (p : Profile) (part : ℕ) (image base : Memory) (unit : U.Unit) (start : Start) (pending : List ℕ) (h : Hart) (s : Shared) →
    Fits unit h.pc → stands_in masked unit ≡ true → may_stand start unit ≡ true → AreSites pending → 0 < length pending →
    (at_start : AtStart masked part image base start pending h s) → length at_start.stacked ≤ MOST_PENDING →
    InBody masked part image base unit h.pc start pending h.regs h s
