-- A return: it reads the newest site from the shadow stack alone, and goes there where x1 is the same.
use Rattle.std.proofs.Common.{◌≡◌, ℕ, suc, ◌+◌, ◌%◌, ◌^◌, ◌==◌, ◌<◌, ◌≤◌, inl, inr, List, ◌∷◌, length, refl, arith}
use Rattle.std.proofs.lemmas.Bool.{cases_Bool, eqb-true, eqb-false}
use Rattle.rv_image.specs.MemoryMap.{Profile}
use Rattle.rv_word.specs.Memory.{Memory}
use Rattle.rv_instr.specs.Registers.{Registers}
use Rattle.rv_code.specs.State.{Hart, Shared}
use Rattle.rv_code.specs.Step.{step, address}
use Rattle.cfi_unit.specs.declared.unit.Unit.TheVariants as V
use Rattle.cfi_unit.specs.UnitWords.{MINUS_EIGHT, BAD_RETURN, Fits, instrs_of}
use Rattle.cfi_unit.specs.Place.{body}
use Rattle.cfi_unit.specs.Shadow.{IsPart, slot, MOST_PENDING}
use Rattle.cfi_unit.specs.Stand.{Stand}
use Rattle.cfi_unit.specs.Context.{Context}
use Rattle.cfi_unit.specs.InPlace.{InReturn, return_ld, return_addi, return_beq, return_other, return_jump}
use Rattle.cfi_unit.specs.UnitLaw.{Outcome, stays, leaves}
use Rattle.cfi_unit.proofs.Context.{at_word, kept_popped}
use Rattle.cfi_unit.proofs.Jumps.{jump_leads}
use Rattle.cfi_unit.proofs.Regions.{can_load_part}

module _ (p : Profile) (part : ℕ) (image base : Memory) (at site : ℕ) (pending : List ℕ) (r : Registers) (h : Hart) (s : Shared) where
  pub return_law : IsPart p part → suc (length pending) ≤ MOST_PENDING → Fits V.Return at → site % 2 ≡ 0 → site < 2 ^ 64 →
      Stand image at (instrs_of V.Return at) → Context part image base (site ∷ pending) s →
      InReturn part at (r 1) site (length pending) h →
      Outcome p part image base (body V.Return) at (site ∷ pending) r (step p h s)
  return_law own most reach even small w c (return_ld e x3 x1) =
      let place : address h 3 MINUS_EIGHT ≡ slot part (length pending) = omega arith in
      let can = can_load_part p part (slot part (length pending)) 8 own (omega arith) (omega arith) in
      at_word (Outcome p part image base _ at (site ∷ pending) r) p h c w 0 _ refl (omega arith)
      (rw (place, can) (stays refl c (omega arith) (return_addi (omega arith) x3 x1 c.kept.held.0)))
  return_law own most reach even small w c (return_addi e x3 x1 x31) =
      at_word (Outcome p part image base _ at (site ∷ pending) r) p h c w 1 _ refl e
      (stays refl c (omega arith) (return_beq (omega arith) (omega arith) x1 x31))
  return_law own most reach even small w c (return_beq e x3 x1 x31) =
      at_word (Outcome p part image base _ at (site ∷ pending) r) p h c w 2 _ refl e
      (elim (cases_Bool (h.regs 31 == h.regs 1)) [
        | inl same ↦
            let equal = eqb-true (h.regs 31) (h.regs 1) same in
            rw same (stays refl c (omega arith) (return_jump (omega arith) x3 (omega arith) x31))
        | inr other ↦
            let apart = eqb-false (h.regs 31) (h.regs 1) other in
            rw other (stays refl c (omega arith) (return_other (omega arith) x3 (λ equal. apart (omega arith))))
      ])
  return_law own most reach even small w c (return_other e x3 apart) =
      at_word (Outcome p part image base _ at (site ∷ pending) r) p h c w 3 _ refl e
      (let to = jump_leads h.pc (at + 12) BAD_RETURN e reach in
      leaves (site ∷ pending) refl c (inr (omega arith)) (inr (apart, (refl, to))))
  return_law own most reach even small w c (return_jump e x3 same x31) =
      at_word (Outcome p part image base _ at (site ∷ pending) r) p h c w 4 _ refl e
      (leaves pending refl (record { going = c.going; kept = kept_popped site c.kept }) (inl (x3, tt)) (inl (same, (refl, omega arith))))
