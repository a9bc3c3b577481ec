-- The check of a computed transfer: it goes on where the destination bears the label, and to the
-- handler where not.
use Rattle.std.proofs.Common.{◌≡◌, ℕ, ◌+◌, ◌*◌, ◌-◌, ◌/◌, ◌%◌, ◌^◌, ◌==◌, ◌<◌, inl, inr, List, length, bit_and, refl, sym, ap, ◌∙◌, arith}
use Rattle.std.proofs.lemmas.Bool.{cases_Bool, eqb-true, eqb-false}
use Rattle.std.proofs.lemmas.Nat.Bits.{and_high_mask}
use Rattle.rv_word.specs.Bits.{wrap}
use Rattle.rv_image.specs.MemoryMap.{Profile}
use Rattle.rv_word.specs.Memory.{Memory, read}
use Rattle.rv_code.specs.State.{Hart, Shared, After}
use Rattle.rv_code.specs.Step.{step, address, offset}
use Rattle.rv_code.specs.declared.turn.Turn.TheVariants.{Ran}
use Rattle.rv_code.proofs.Frames.{read_same}
use Rattle.cfi_unit.specs.declared.target_word.TargetWord.{TargetWord}
use Rattle.cfi_unit.specs.UnitWords.{BAD_TARGET, CheckFits, check, past}
use Rattle.cfi_unit.specs.Stand.{Stand}
use Rattle.cfi_unit.specs.Context.{Context}
use Rattle.cfi_unit.specs.Leads.{HasLabel}
use Rattle.cfi_unit.specs.InPlace.{IsCodeAddress, InCheck, Checked, check_addi, check_andi, check_lui, check_sub, check_srli, check_region, check_outside, check_lw, check_label, check_opcode, check_word, check_other}
use Rattle.cfi_unit.proofs.Context.{at_word}
use Rattle.cfi_unit.proofs.Jumps.{jump_leads}
use Rattle.cfi_unit.proofs.Labels.{word_small, same_word, word_same, past_near, read_at}
use Rattle.cfi_unit.proofs.Regions.{can_load_code}

pub data AfterCheck (part : ℕ) (image base : Memory) (which : TargetWord) (at rs1 imm label sum v : ℕ) (pending : List ℕ) (after : After) : Type 0 where
  check_inside : after.turn ≡ Ran → Context part image base pending after.shared → at < after.hart.pc →
      InCheck part image which at rs1 imm label sum v (length pending) after.hart → AfterCheck part image base which at rs1 imm label sum v pending after
  check_done : after.turn ≡ Ran → Context part image base pending after.shared → after.hart.pc ≡ at + 48 →
      Checked part image which label v (length pending) after.hart → AfterCheck part image base which at rs1 imm label sum v pending after
  check_halts : after.turn ≡ Ran → Context part image base pending after.shared → after.hart.pc ≡ BAD_TARGET →
      (HasLabel image which label v → ⊥) → AfterCheck part image base which at rs1 imm label sum v pending after

-- the low two bits cleared
cleared : (x sum v : ℕ) → x ≡ sum → sum < 2 ^ 64 → v ≡ sum / 4 * 4 → bit_and x (2 ^ 64 - 2 ^ 2) ≡ v
cleared x sum v is small v_is = ap (λ y. bit_and y (2 ^ 64 - 2 ^ 2)) is ∙ and_high_mask 64 2 (omega arith) sum small ∙ sym v_is

module _ (p : Profile) (part : ℕ) (image base : Memory) (which : TargetWord) (at rs1 imm label sum v : ℕ) (pending : List ℕ) (h : Hart) (s : Shared) where
  abbrev Result : After → Type 0
  Result = AfterCheck part image base which at rs1 imm label sum v pending

  pub check_law : ((k : ℕ) → image k < 2 ^ 8) → CheckFits at rs1 imm label → sum < 2 ^ 64 → v ≡ sum / 4 * 4 →
      Stand image at (check at rs1 imm label which) → Context part image base pending s →
      InCheck part image which at rs1 imm label sum v (length pending) h → AfterCheck part image base which at rs1 imm label sum v pending (step p h s)
  check_law small fits low v_is w c (check_addi e x3 sum_is) =
      at_word Result p h c w 0 _ refl (omega arith) (check_inside refl c (omega arith) (check_andi (omega arith) x3 sum_is))
  check_law small fits low v_is w c (check_andi e x3 x31) =
      at_word Result p h c w 1 _ refl e (check_inside refl c (omega arith) (check_lui (omega arith) x3 (cleared (h.regs 31) sum v x31 low v_is)))
  check_law small fits low v_is w c (check_lui e x3 x31) =
      at_word Result p h c w 2 _ refl e (check_inside refl c (omega arith) (check_sub (omega arith) x3 x31 refl))
  check_law small fits low v_is w c (check_sub e x3 x31 x30) =
      at_word Result p h c w 3 _ refl e (check_inside refl c (omega arith) (check_srli (omega arith) x3 x31 (rw (x31, x30) refl)))
  check_law small fits low v_is w c (check_srli e x3 x31 x30) =
      at_word Result p h c w 4 _ refl e (check_inside refl c (omega arith) (check_region (omega arith) x3 x31 (ap (λ x. x / 2 ^ 20) x30)))
  check_law small fits low v_is w c (check_region e x3 x31 x30) =
      at_word Result p h c w 5 _ refl e
      (elim (cases_Bool (h.regs 30 == 0)) [
        | inl inside ↦
            let zero_is = eqb-true (h.regs 30) 0 inside in
            let code : IsCodeAddress v = record { low = omega arith; high = omega arith } in
            rw inside (check_inside refl c (omega arith) (check_lw (omega arith) x3 x31 code))
        | inr outside ↦
            let not_zero = eqb-false (h.regs 30) 0 outside in
            let beyond : IsCodeAddress v → ⊥ = λ code. let first = code.low in let last = code.high in not_zero (omega arith) in
            rw outside (check_inside refl c (omega arith) (check_outside (omega arith) x3 beyond))
      ])
  check_law small fits low v_is w c (check_outside e x3 outside) =
      at_word Result p h c w 6 _ refl e
      (check_halts refl c (jump_leads h.pc (at + 24) BAD_TARGET e fits.3)
      (λ has. let last = has.high in outside (record { low = has.low; high = omega arith })))
  check_law small fits low v_is w c (check_lw e x3 x31 code) =
      let near = past_near which in
      let first = code.low in
      let last = code.high in
      let place : address h 31 (past which) ≡ v + past which =
      ap (λ x. wrap (x + offset 12 (past which))) x31 ∙ read_at which v (omega arith) in
      let can = can_load_code p (v + past which) 4 (omega arith) (omega arith) in
      let same : read 4 s.memory (v + past which) ≡ read 4 image (v + past which) =
      read_same 4 image s.memory (v + past which) (λ k from to. c.kept.code k (omega arith) (omega arith)) in
      at_word Result p h c w 7 _ refl e
      (rw (place, can) (check_inside refl c (omega arith) (check_label (omega arith) x3 x31 code (ap (offset 32) same))))
  check_law small fits low v_is w c (check_label e x3 x31 code x30) =
      at_word Result p h c w 8 _ refl e (check_inside refl c (omega arith) (check_opcode (omega arith) x3 x31 code x30 refl))
  check_law small fits low v_is w c (check_opcode e x3 x31 code x30 x4) =
      at_word Result p h c w 9 _ refl e
      (check_inside refl c (omega arith) (check_word (omega arith) x3 x31 code x30 (ap (λ x. (x + 55) % 2 ^ 64) x4)))
  check_law small fits low v_is w c (check_word e x3 x31 code x30 x4) =
      at_word Result p h c w 10 _ refl e
      (elim (cases_Bool (h.regs 30 == h.regs 4)) [
        | inl same ↦
            let equal = eqb-true (h.regs 30) (h.regs 4) same in
            let word : read 4 image (v + past which) ≡ label * 4096 + 55 =
            same_word (read 4 image (v + past which)) label (word_small image (v + past which) small) fits.2 (sym x30 ∙ equal ∙ x4) in
            let first = code.low in
            let last = code.high in
            let legal : HasLabel image which label v = record { round = omega arith; low = first; high = omega arith; word = word } in
            rw same (check_done refl c (omega arith) (record { destination_is = x31; pointer = x3; legal = legal }))
        | inr other ↦
            let apart = eqb-false (h.regs 30) (h.regs 4) other in
            let no_label : HasLabel image which label v → ⊥ =
            λ has. apart (x30 ∙ word_same (read 4 image (v + past which)) label fits.2 has.word ∙ sym x4) in
            rw other (check_inside refl c (omega arith) (check_other (omega arith) x3 no_label))
      ])
  check_law small fits low v_is w c (check_other e x3 other) =
      at_word Result p h c w 11 _ refl e (check_halts refl c (jump_leads h.pc (at + 44) BAD_TARGET e fits.4) other)
