-- An enter: the site in x1 comes into the next slot, or the run goes to a handler where all slots are
-- taken.
use Rattle.std.proofs.Common.{◌≡◌, ℕ, ◌+◌, ◌^◌, ◌==◌, ◌<◌, ◌≤◌, inl, inr, List, ◌∷◌, length, refl, ◌∙◌, arith}
use Rattle.std.proofs.lemmas.Bool.{cases_Bool, eqb-true, eqb-false}
use Rattle.rv_image.specs.MemoryMap.{Profile}
use Rattle.rv_word.specs.Memory.{Memory, read, write}
use Rattle.rv_instr.specs.Registers.{Registers}
use Rattle.rv_code.specs.State.{Hart, Shared, After}
use Rattle.rv_code.specs.Step.{step, address}
use Rattle.rv_code.proofs.Frames.{read_write}
use Rattle.cfi_unit.specs.declared.unit.Unit.TheVariants as V
use Rattle.cfi_unit.specs.UnitWords.{DEEP, Fits, instrs_of}
use Rattle.cfi_unit.specs.Place.{body}
use Rattle.cfi_unit.specs.Shadow.{IsPart, slot, MOST_PENDING}
use Rattle.cfi_unit.specs.Stand.{Stand}
use Rattle.cfi_unit.specs.Context.{Context}
use Rattle.cfi_unit.specs.InPlace.{InEnter, enter_slli, enter_bne, enter_deep, enter_store, enter_grow}
use Rattle.cfi_unit.specs.UnitLaw.{Outcome, stays, leaves}
use Rattle.cfi_unit.proofs.Context.{at_word, kept_push, kept_pending}
use Rattle.cfi_unit.proofs.Jumps.{jump_leads}
use Rattle.cfi_unit.proofs.Regions.{can_store_part}

module _ (p : Profile) (part : ℕ) (image base : Memory) (at : ℕ) (pending : List ℕ) (r : Registers) (h : Hart) (s : Shared) where
  abbrev Result : After → Type 0
  Result = Outcome p part image base (body V.Enter) at pending r

  pub enter_law : IsPart p part → length pending ≤ MOST_PENDING → Fits V.Enter at → r 1 < 2 ^ 64 → Stand image at (instrs_of V.Enter at) →
      Context part image base pending s → InEnter part at (r 1) (length pending) h s.memory → Result (step p h s)
  enter_law own most deep low w c (enter_slli e x3 x1) =
      at_word Result p h c w 0 _ refl (omega arith)
      (stays refl c (omega arith) (low, enter_bne (omega arith) x3 x1 (omega arith)))
  enter_law own most deep low w c (enter_bne e x3 x1 x30) =
      at_word Result p h c w 1 _ refl e
      (elim (cases_Bool (h.regs 30 == 0)) [
        | inl full ↦
            let zero_is = eqb-true (h.regs 30) 0 full in
            rw full (stays refl c (omega arith) (low, enter_deep (omega arith) x3 (omega arith)))
        | inr some ↦
            let not_zero = eqb-false (h.regs 30) 0 some in
            rw some (stays refl c (omega arith) (low, enter_store (omega arith) x3 x1 (omega arith)))
      ])
  enter_law own most deep low w c (enter_deep e x3 full) =
      let to = jump_leads h.pc (at + 8) DEEP e deep in
      at_word Result p h c w 2 _ refl e (leaves pending refl c (inr (omega arith)) (inr (full, refl, to)))
  enter_law own most deep low w c (enter_store e x3 x1 room) =
      let place : address h 3 0 ≡ slot part (length pending) = omega arith in
      let can = can_store_part p part (slot part (length pending)) 8 own (omega arith) (omega arith) in
      let kept = kept_push own.low room (h.regs 1) c.kept in
      let stored : read 8 (write 8 s.memory (slot part (length pending)) (h.regs 1)) (slot part (length pending)) ≡ r 1 =
      read_write 8 s.memory (slot part (length pending)) (h.regs 1) (omega arith) ∙ x1 in
      at_word Result p h c w 3 _ refl e
      (rw (place, can) (stays refl (record { going = c.going; kept = kept }) (omega arith) (low, enter_grow (omega arith) x3 room stored)))
  enter_law own most deep low w c (enter_grow e x3 room stored) =
      at_word Result p h c w 4 _ refl e
      (leaves (r 1 ∷ pending) refl (record { going = c.going; kept = kept_pending (r 1) c.kept stored })
      (inl (omega arith, tt)) (inl (room, refl, omega arith)))
