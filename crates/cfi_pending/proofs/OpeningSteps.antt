-- The opening's words, one after another.
use Rattle.std.proofs.Common.{◌≡◌, ◌+◌, ◌^◌, ◌<◌, ℕ, Bool, true, false, List, [], ◌∷◌, length, inl, inr, refl, ◌∙◌, arith}
use Rattle.std.specs.Prelude.{◌⊎◌}
use Rattle.rv_image.specs.MemoryMap.{Profile}
use Rattle.rv_word.specs.Memory.{Memory}
use Rattle.rv_code.specs.State.{After, Hart, Shared}
use Rattle.rv_code.specs.Step.{step}
use Rattle.cfi_unit.specs.declared.place.Place.TheVariants.{Body as body}
use Rattle.cfi_unit.specs.declared.unit.Unit.TheVariants as V
use Rattle.cfi_unit.specs.Context.{Context}
use Rattle.cfi_unit.specs.InPlace.{only}
use Rattle.cfi_unit.specs.Prologue.{OPENING}
use Rattle.cfi_unit.specs.Shadow.{IsPart, slot}
use Rattle.cfi_unit.specs.Stand.{Stand}
use Rattle.cfi_unit.specs.Templates.{LeftWith}
use Rattle.cfi_unit.specs.UnitLaw.{Outcome, ends, leaves, stays}
use Rattle.cfi_unit.specs.UnitWords.{Fits, STORE_MASK, instrs_of}
use Rattle.cfi_unit.proofs.Context.{at_word, stand_back}
use Rattle.cfi_unit.proofs.MaskKept.{mask_stays}
use Rattle.cfi_unit.proofs.UnitSteps.{unit_law}
use Rattle.cfi_pending.specs.Opening as opening
use Rattle.cfi_pending.specs.Opening.{InLone, InOwn, OpeningLaw, OpeningOutcome, call_at, lone_call, lone_less, lone_mask, lone_shadow, lone_slot, lone_stack, opening_instrs, own_call, own_end, own_less, own_mask, own_offset, own_part, own_part_offset, own_shadow, own_slot, own_stack, set_up, site_of}
use Rattle.cfi_pending.specs.StartLaw.{AtStart, Halted}
use Rattle.cfi_pending.specs.Starts.{fresh}

module _ (p : Profile) (part : ℕ) (image base : Memory) (entry : ℕ) (h : Hart) (s : Shared) (c : Context part image base [] s) (own : IsPart p part) where
  abbrev Opens : Bool → After → Type 0
  Opens several after = OpeningOutcome several part image base entry after

  lone_on : Stand image OPENING (opening_instrs false entry) → InLone part h →
      (h.pc ≡ OPENING + 20 → h.regs 4 ≡ STORE_MASK → h.regs 3 ≡ slot part 0 → Opens false (step p h s)) → Opens false (step p h s)
  lone_on w (lone_stack e mine) call =
      (at_word (Opens false) p h c w 0 _ refl e (opening.stays refl c (omega arith) (lone_mask (omega arith) mine)))
  lone_on w (lone_mask e mine) call =
      (at_word (Opens false) p h c w 1 _ refl e (opening.stays refl c (omega arith) (lone_less (omega arith) mine refl)))
  lone_on w (lone_less e mine x4) call =
      (at_word (Opens false) p h c w 2 _ refl e (opening.stays refl c (omega arith) (lone_shadow (omega arith) mine (omega (arith, x4)))))
  lone_on w (lone_shadow e mine x4) call =
      (at_word (Opens false) p h c w 3 _ refl e (opening.stays refl c (omega arith) (lone_slot (omega arith) mine x4 refl)))
  lone_on w (lone_slot e mine x4 x3) call =
      (at_word (Opens false) p h c w 4 _ refl e (opening.stays refl c (omega arith) (lone_call (omega arith) x4 (omega (arith, x3, mine)))))
  lone_on w (lone_call e x4 x3) call = call e x4 x3

  own_on : Stand image OPENING (opening_instrs true entry) → InOwn part h →
      (h.pc ≡ OPENING + 36 → h.regs 4 ≡ STORE_MASK → h.regs 3 ≡ slot part 0 → Opens true (step p h s)) → Opens true (step p h s)
  own_on w (own_stack e mine) call =
      at_word (Opens true) p h c w 0 _ refl e (opening.stays refl c (omega arith) (own_mask (omega arith) mine))
  own_on w (own_mask e mine) call =
      at_word (Opens true) p h c w 1 _ refl e (opening.stays refl c (omega arith) (own_less (omega arith) mine refl))
  own_on w (own_less e mine x4) call =
      at_word (Opens true) p h c w 2 _ refl e (opening.stays refl c (omega arith) (own_offset (omega arith) mine (omega (arith, x4))))
  own_on w (own_offset e mine x4) call =
      at_word (Opens true) p h c w 3 _ refl e (opening.stays refl c (omega arith) (own_end (omega arith) mine x4))
  own_on w (own_end e mine x4) call =
      at_word (Opens true) p h c w 4 _ refl e (opening.stays refl c (omega arith) (own_shadow (omega arith) mine x4))
  own_on w (own_shadow e mine x4) call =
      at_word (Opens true) p h c w 5 _ refl e (opening.stays refl c (omega arith) (own_part_offset (omega arith) mine x4 refl))
  own_on w (own_part_offset e mine x4 x3) call =
      let high = own.high in
      let low = own.low in
      let most = own.most in
      at_word (Opens true) p h c w 6 _ refl e (opening.stays refl c (omega arith) (own_part (omega arith) (omega arith) x4 x3))
  own_on w (own_part e mine x4 x3) call =
      let high = own.high in
      let most = own.most in
      at_word (Opens true) p h c w 7 _ refl e (opening.stays refl c (omega arith) (own_slot (omega arith) (omega arith) x4))
  own_on w (own_slot e x3 x4) call =
      let high = own.high in
      let most = own.most in
      at_word (Opens true) p h c w 8 _ refl e (opening.stays refl c (omega arith) (own_call (omega arith) x4 (omega arith)))
  own_on w (own_call e x4 x3) call = call e x4 x3

-- the call of the entry, as the unit that it is
module _ (several : Bool) (p : Profile) (part : ℕ) (image base : Memory) (entry : ℕ) (h : Hart) (s : Shared) (own : IsPart p part) (bytes : (k : ℕ) → image k < 2 ^ 8)
    (fits : Fits (V.LinkCall entry) (call_at several)) (w : Stand image (call_at several) (instrs_of (V.LinkCall entry) (call_at several))) (c : Context part image base [] s)
    (e : h.pc ≡ call_at several) (x4 : h.regs 4 ≡ STORE_MASK) (x3 : h.regs 3 ≡ slot part 0) where
  abbrev after : After
  after = step p h s

  mask : after.hart.regs 4 ≡ STORE_MASK
  mask = mask_stays p part image base (V.LinkCall entry) (call_at several) [] h.regs h s refl (fits, tt) w c (only e x3) ∙ x4

  there : (newer : List ℕ) → newer ≡ [] → Context part image base newer after.shared →
      ((after.hart.regs 3 ≡ slot part (length newer)) × LeftWith (body (V.LinkCall entry)) (call_at several) after.hart.regs) ⊎ (after.hart.pc < OPENING) →
      AtStart true part image base fresh (site_of several ∷ []) after.hart after.shared ⊎ Halted part image base after.hart after.shared
  there newer none d (inl (pointer, link)) = inl (record { stacked = newer; stands = (link, none); pointer = pointer; context = d; mask = λ is. mask })
  there newer none d (inr low) = inr (record { low = low; stacked = newer; context = d })

  called : Outcome p part image base (body (V.LinkCall entry)) (call_at several) [] h.regs after → OpeningOutcome several part image base entry after
  called (stays ran d below (only same x)) = absurd (omega (arith, below, same))
  called (leaves newer ran d back leads) = opening.calls ran leads.1 (there newer leads.0 d back)
  called (ends how kept) = absurd how

  call : OpeningOutcome several part image base entry after
  call = called (unit_law p part image base (body (V.LinkCall entry)) (call_at several) [] h.regs h s own bytes (fits, tt) (omega arith) w c (only e x3))

pub opening_law : OpeningLaw
opening_law false p part image base entry h s own bytes fits w c i =
    lone_on p part image base entry h s c own w i
    (λ e x4 x3. call false p part image base entry h s own bytes fits (stand_back (set_up false) (instrs_of (V.LinkCall entry) (call_at false)) w) c e x4 x3)
opening_law true p part image base entry h s own bytes fits w c i =
    own_on p part image base entry h s c own w i
    (λ e x4 x3. call true p part image base entry h s own bytes fits (stand_back (set_up true) (instrs_of (V.LinkCall entry) (call_at true)) w) c e x4 x3)
