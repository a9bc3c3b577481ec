-- The push of a site, which calls have in common: the site comes into the next slot, or the run goes
-- to a handler where all slots are taken.
use Rattle.std.proofs.Common.{◌≡◌, ℕ, ◌+◌, ◌==◌, ◌<◌, ◌≤◌, inl, inr, List, length, refl, ◌∙◌, arith}
use Rattle.std.proofs.lemmas.Bool.{cases_Bool, eqb-true, eqb-false}
use Rattle.rv_image.specs.MemoryMap.{Profile}
use Rattle.rv_word.specs.Memory.{Memory, read, write}
use Rattle.rv_code.specs.State.{Hart, Shared, After}
use Rattle.rv_code.specs.Step.{step, address}
use Rattle.rv_code.specs.declared.turn.Turn.TheVariants.{Ran}
use Rattle.rv_code.proofs.Frames.{read_write}
use Rattle.cfi_unit.specs.UnitWords.{DEEP, Reaches, push}
use Rattle.cfi_unit.specs.Shadow.{IsPart, slot, MOST_PENDING}
use Rattle.cfi_unit.specs.Stand.{Stand}
use Rattle.cfi_unit.specs.Context.{Context}
use Rattle.cfi_unit.specs.InPlace.{InPush, push_slli, push_bne, push_deep, push_auipc, push_addi, push_store, push_grow, Pushed}
use Rattle.cfi_unit.proofs.Context.{at_word, kept_push}
use Rattle.cfi_unit.proofs.Jumps.{jump_leads}
use Rattle.cfi_unit.proofs.Regions.{can_store_part}

pub data AfterPush (part : ℕ) (image base : Memory) (at v : ℕ) (pending : List ℕ) (after : After) : Type 0 where
  push_inside : after.turn ≡ Ran → Context part image base pending after.shared → at < after.hart.pc →
      InPush part at v (length pending) after.hart after.shared.memory → AfterPush part image base at v pending after
  push_done : after.turn ≡ Ran → Context part image base pending after.shared → after.hart.pc ≡ at + 28 →
      Pushed part (at + 32) v (length pending) after.hart after.shared.memory → AfterPush part image base at v pending after
  push_halts : after.turn ≡ Ran → Context part image base pending after.shared → after.hart.pc ≡ DEEP →
      length pending ≡ MOST_PENDING → AfterPush part image base at v pending after

module _ (p : Profile) (part : ℕ) (image base : Memory) (at v : ℕ) (pending : List ℕ) (h : Hart) (s : Shared) where
  pub push_law : IsPart p part → length pending ≤ MOST_PENDING → Reaches (at + 8) DEEP → Stand image at (push at) →
      Context part image base pending s → InPush part at v (length pending) h s.memory →
      AfterPush part image base at v pending (step p h s)
  push_law own most deep w c (push_slli e x31 x3) =
      at_word (AfterPush part image base at v pending) p h c w 0 _ refl (omega arith)
      (push_inside refl c (omega arith) (push_bne (omega arith) x31 x3 (omega arith)))
  push_law own most deep w c (push_bne e x31 x3 x30) =
      at_word (AfterPush part image base at v pending) p h c w 1 _ refl e
      (elim (cases_Bool (h.regs 30 == 0)) [
        | inl full ↦
            let zero_is = eqb-true (h.regs 30) 0 full in
            rw full (push_inside refl c (omega arith) (push_deep (omega arith) x31 x3 (omega arith)))
        | inr some ↦
            let not_zero = eqb-false (h.regs 30) 0 some in
            rw some (push_inside refl c (omega arith) (push_auipc (omega arith) x31 x3 (omega arith)))
      ])
  push_law own most deep w c (push_deep e x31 x3 full) =
      at_word (AfterPush part image base at v pending) p h c w 2 _ refl e
      (push_halts refl c (jump_leads h.pc (at + 8) DEEP e deep) full)
  push_law own most deep w c (push_auipc e x31 x3 room) =
      at_word (AfterPush part image base at v pending) p h c w 3 _ refl e
      (push_inside refl c (omega arith) (push_addi (omega arith) x31 x3 room (omega arith)))
  push_law own most deep w c (push_addi e x31 x3 room x30) =
      at_word (AfterPush part image base at v pending) p h c w 4 _ refl e
      (push_inside refl c (omega arith) (push_store (omega arith) x31 x3 room (omega arith)))
  push_law own most deep w c (push_store e x31 x3 room x30) =
      let place : address h 3 0 ≡ slot part (length pending) = omega arith in
      let can = can_store_part p part (slot part (length pending)) 8 own (omega arith) (omega arith) in
      let kept = kept_push own.low room (h.regs 30) c.kept in
      let stored : read 8 (write 8 s.memory (slot part (length pending)) (h.regs 30)) (slot part (length pending)) ≡ at + 32 =
      read_write 8 s.memory (slot part (length pending)) (h.regs 30) (omega arith) ∙ x30 in
      at_word (AfterPush part image base at v pending) p h c w 5 _ refl e
      (rw (place, can) (push_inside refl (record { going = c.going; kept = kept }) (omega arith) (push_grow (omega arith) x31 x3 room stored)))
  push_law own most deep w c (push_grow e x31 x3 room stored) =
      at_word (AfterPush part image base at v pending) p h c w 6 _ refl e
      (push_done refl c (omega arith) (record { kept = x31; pointer = omega arith; room = room; site_is = stored }))
