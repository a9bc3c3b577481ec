-- The unit law with all pending sites, from the law of what stands on the shadow stack.
use Rattle.std.proofs.Common.{◌≡◌, ◌^◌, ◌<◌, ℕ, Bool, true, false, List, [], ◌∷◌, length, inl, inr, sym, subst, ◌∙◌}
use Rattle.std.specs.Prelude.{◌⊎◌}
use Rattle.std.proofs.lemmas.Bool.{cases_Bool}
use Rattle.rv_image.specs.MemoryMap.{Profile}
use Rattle.rv_word.specs.Memory.{Memory}
use Rattle.rv_instr.specs.Registers.{Registers}
use Rattle.rv_code.specs.State.{After, Hart, Shared}
use Rattle.rv_code.specs.Step.{step}
use Rattle.rv_code.specs.declared.turn.Turn.TheVariants.{Ran}
use Rattle.cfi_unit.specs.declared.place.Place.TheVariants.{Body as body}
use Rattle.cfi_unit.specs.declared.unit.Unit as U
use Rattle.cfi_unit.specs.declared.unit.Unit.TheVariants as V
use Rattle.cfi_unit.specs.Context.{Context}
use Rattle.cfi_unit.specs.Leads.{by_label}
use Rattle.cfi_unit.specs.MaskLaw.{writes_mask}
use Rattle.cfi_unit.specs.Prologue.{OPENING}
use Rattle.cfi_unit.specs.Shadow.{IsPart, slot}
use Rattle.cfi_unit.specs.Stand.{Stand}
use Rattle.cfi_unit.specs.Templates.{LeftWith, is_lean}
use Rattle.cfi_unit.specs.UnitLaw.{Outcome, ReturnsTo, UnitMayStand, ends, leaves, stays}
use Rattle.cfi_unit.specs.UnitWords.{Fits, STORE_MASK, instrs_of}
use Rattle.cfi_unit.proofs.MaskKept.{mask_stays}
use Rattle.cfi_unit.proofs.UnitSteps.{unit_law}
use Rattle.cfi_pending.specs.Laws.{StaysBy}
use Rattle.cfi_pending.specs.StartLaw.{AreSites, AtStart, Halted, InBody, StartLaw, StartOutcome, stands_in}
use Rattle.cfi_pending.specs.StartLaw as outcome
use Rattle.cfi_pending.specs.Starts.{Start, StandsBy, fresh, may_stand, next_start, saved}
use Rattle.cfi_pending.proofs.Law.{pending_law_of}
use Rattle.cfi_pending.proofs.LinkKept.{link_stays}

first_of : (pending : List ℕ) → AreSites pending → ReturnsTo pending
first_of [] are = tt
first_of (site ∷ pending) are = are.0

-- a return may go back to what the shadow stack holds
pub stacked_of : (start : Start) (r : Registers) (pending stacked : List ℕ) → StandsBy start r pending stacked → AreSites pending → ReturnsTo stacked
stacked_of saved r pending stacked stands are = subst ReturnsTo (sym stands) (first_of pending are)
stacked_of fresh r [] stacked stands are = absurd stands
stacked_of fresh r (site ∷ pending) stacked stands are = subst ReturnsTo (sym stands.1) (first_of pending are.1)

-- a transfer that makes the mask again is left with it
lean_of : (masked : Bool) (unit : U.Unit) → masked ≡ true → stands_in masked unit ≡ true → is_lean unit ≡ true
lean_of true unit is stands = stands
lean_of false unit is stands = absurd cc

mask_made : (unit : U.Unit) (at : ℕ) (regs : Registers) → is_lean unit ≡ true → writes_mask unit ≡ true → LeftWith (body unit) at regs → regs 4 ≡ STORE_MASK
mask_made (V.LeanIjump rs1 imm label) at regs lean writes has = has
mask_made (V.LeanIcall rs1 imm label) at regs lean writes has = has.1
mask_made (V.Ijump which rs1 imm label) at regs lean writes has = absurd cc
mask_made (V.Icall rs1 imm label) at regs lean writes has = absurd cc
mask_made other at regs lean writes has = absurd cc

module _ (masked : Bool) (p : Profile) (part : ℕ) (image base : Memory) (unit : U.Unit) (at : ℕ) (start : Start) (pending : List ℕ) (r : Registers) (h : Hart) (s : Shared)
    (own : IsPart p part) (bytes : (k : ℕ) → image k < 2 ^ 8) (lean : stands_in masked unit ≡ true) (may : may_stand start unit ≡ true) (fits : Fits unit at)
    (are : AreSites pending) (w : Stand image at (instrs_of unit at)) (i : InBody masked part image base unit at start pending r h s) where
  abbrev after : After
  after = step p h s

  stand : UnitMayStand unit at i.stacked
  stand = (fits, stacked_of start r pending i.stacked i.stands are)

  link : start ≡ fresh → after.hart.regs 1 ≡ r 1
  link is =
      link_stays p part image base unit at i.stacked r h s (subst (λ (x : Start). may_stand x unit ≡ true) is may) stand w i.context i.word ∙ i.link is

  mask : masked ≡ true → writes_mask unit ≡ false → after.hart.regs 4 ≡ STORE_MASK
  mask is other = mask_stays p part image base unit at i.stacked r h s other stand w i.context i.word ∙ i.mask is other

  mask_after : LeftWith (body unit) at after.hart.regs → masked ≡ true → after.hart.regs 4 ≡ STORE_MASK
  mask_after has is = elim (cases_Bool (writes_mask unit)) [
    | inl writes ↦ mask_made unit at after.hart.regs (lean_of masked unit is lean) writes has
    | inr other ↦ mask is other
  ]

  -- it is left to a start or to a handler
  left : (newer : List ℕ) → after.turn ≡ Ran → Context part image base newer after.shared →
      ((after.hart.regs 3 ≡ slot part (length newer)) × LeftWith (body unit) at after.hart.regs) ⊎ (after.hart.pc < OPENING) →
      StaysBy (by_label image) unit at start pending r after.hart.regs newer after.hart.pc → StartOutcome masked part image base unit at start pending r after
  left newer ran c (inr low) by = outcome.leaves by.newer ran by.leads (inr (record { low = low; stacked = newer; context = c }))
  left newer ran c (inl (pointer, has)) by = outcome.leaves by.newer ran by.leads (there by.stands)
    where
      there : StandsBy (next_start start unit) after.hart.regs by.newer newer ⊎ (after.hart.pc < OPENING) →
          AtStart masked part image base (next_start start unit) by.newer after.hart after.shared ⊎ Halted part image base after.hart after.shared
      there (inl stands) = inl (record { stacked = newer; stands = stands; pointer = pointer; context = c; mask = mask_after has })
      there (inr low) = inr (record { low = low; stacked = newer; context = c })

  left_with : {A B C : Type 0} → (A × B) ⊎ C → B ⊎ C
  left_with (inl both) = inl both.1
  left_with (inr low) = inr low

  from_outcome : Outcome p part image base (body unit) at i.stacked r after → StartOutcome masked part image base unit at start pending r after
  from_outcome (stays ran c below word) =
      outcome.stays ran below (record { stacked = i.stacked; stands = i.stands; few = i.few; word = word; context = c; link = link; mask = mask })
  from_outcome (leaves newer ran c back leads) =
      left newer ran c back
      (pending_law_of (by_label image) unit at start pending i.stacked newer r after.hart.regs after.hart.pc may (first_of pending are) i.stands i.few leads (left_with back) link)
  from_outcome (ends e kept) = outcome.ends i.stacked e kept

pub start_law : StartLaw
start_law masked p part image base unit at start pending r h s own bytes lean may fits are w i =
    from_outcome masked p part image base unit at start pending r h s own bytes lean may fits are w i
    (unit_law p part image base (body unit) at i.stacked r h s own bytes (stand masked p part image base unit at start pending r h s own bytes lean may fits are w i) i.few w i.context i.word)
