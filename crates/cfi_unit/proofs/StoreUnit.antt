-- Stores behind one mask: their address is masked to lie below 2 ^ 28 and each is less than 2 ^ 11
-- bytes past it, so they write data alone.
use Rattle.std.proofs.Common.{◌≡◌, ℕ, suc, ◌+◌, ◌*◌, ◌%◌, ◌^◌, ◌<◌, inl, inr, List, length, true, refl, sym, ap, subst, ◌∙◌, arith}
use Rattle.std.specs.Prelude.{map, nat_lt}
use Rattle.std.specs.Int.Bits.{bit_and, mask_lt}
use Rattle.std.proofs.lemmas.Bool.{cases_lt, lt-ltb}
use Rattle.rv_word.specs.Bits.{wrap}
use Rattle.rv_image.specs.MemoryMap.{Profile}
use Rattle.rv_word.specs.Memory.{Memory, write}
use Rattle.rv_instr.specs.Registers.{Registers, get_reg}
use Rattle.rv_code.specs.Arithmetic.{store_size}
use Rattle.rv_code.specs.State.{Hart, Shared, After}
use Rattle.rv_code.specs.Step.{step, address, offset}
use Rattle.rv_code.specs.declared.turn.Turn.TheVariants.{Ran}
use Rattle.rv_code.proofs.Frames.{write_outside}
use Rattle.cfi_unit.specs.declared.mask.Mask.{Mask}
use Rattle.cfi_unit.specs.declared.mask.Mask.TheVariants.{Shifts, Short, Long}
use Rattle.cfi_unit.specs.declared.members.Member.{Member}
use Rattle.cfi_unit.specs.declared.unit.Unit.TheVariants as V
use Rattle.cfi_unit.specs.Members.{member_instr}
use Rattle.cfi_unit.specs.UnitWords.{Fits, STORE_MASK, instrs_of, mask_instrs, mask_words}
use Rattle.cfi_unit.specs.Place.{body}
use Rattle.cfi_unit.specs.Shadow.{IsPart, slot}
use Rattle.cfi_unit.specs.Stand.{Stand}
use Rattle.cfi_unit.specs.Context.{Context}
use Rattle.cfi_unit.specs.InPlace.{InMask, shifts_addi, shifts_slli, shifts_srli, short_and, long_addi, long_and, InStores, stores_mask, stores_store}
use Rattle.cfi_unit.specs.UnitLaw.{Outcome, stays, leaves}
use Rattle.cfi_unit.proofs.Context.{at_word, kept_data, slice_get-back}
use Rattle.cfi_unit.proofs.MemberWords.{member_at}
use Rattle.cfi_unit.proofs.Regions.{store_size-small, can_store_near}

-- a member's distance is not negative
pub distance_is : (d : ℕ) → d < 2 ^ 11 → offset 12 d ≡ d
distance_is d low =
    let same : d % 2 ^ 12 ≡ d = omega arith in
    let t : nat_lt (d % 2 ^ 12) (2 ^ 11) ≡ true = lt-ltb _ _ (omega arith) in
    rw (t, same) (omega arith)

-- where a member stores
pub member_address : (x a d : ℕ) → x ≡ a → a < 2 ^ 28 → d < 2 ^ 11 → wrap (x + offset 12 d) ≡ a + d
member_address x a d is near low = ap (λ y. wrap (x + y)) (distance_is d low) ∙ (omega arith)

-- what is masked by x4 lies below 2 ^ 28
mask_below : (x m : ℕ) → m ≡ STORE_MASK → bit_and x m < 2 ^ 28
mask_below x m is = subst (λ k. bit_and x k < 2 ^ 28) (sym is) (mask_lt x 28)

-- how many words a mask has
pub mask_counted : (mask : Mask) (rs1 imm : ℕ) → length (mask_instrs mask rs1 imm) ≡ mask_words mask
mask_counted Shifts rs1 imm = refl
mask_counted Short rs1 imm = refl
mask_counted Long rs1 imm = refl

module _ (p : Profile) (part : ℕ) (image base : Memory) (mask : Mask) (rs1 imm : ℕ) (members : List Member) (at : ℕ)
    (pending : List ℕ) (r : Registers) (h : Hart) (s : Shared) where
  abbrev Result : After → Type 0
  Result = Outcome p part image base (body (V.Stores mask rs1 imm members)) at pending r

  -- after member k the next one stands, or the unit is left
  member_done : (k : ℕ) (s' : Shared) → k < length members → h.pc ≡ at + 4 * (mask_words mask + k) → h.regs 3 ≡ slot part (length pending) →
      h.regs 31 < 2 ^ 28 → Context part image base pending s' → Result (record { hart = record { pc = h.pc + 4; regs = h.regs }; shared = s'; turn = Ran })
  member_done k s' below e x3 small c =
      elim (cases_lt (suc k) (length members)) [
        | inl more ↦ stays refl c (omega arith) (stores_store (suc k) more (omega arith) x3 small)
        | inr last ↦ leaves pending refl c (inl (x3, tt)) (refl, omega arith)
      ]

  member_law : (k : ℕ) → IsPart p part → Fits (V.Stores mask rs1 imm members) at → Stand image at (instrs_of (V.Stores mask rs1 imm members) at) →
      Context part image base pending s → k < length members → h.pc ≡ at + 4 * (mask_words mask + k) → h.regs 3 ≡ slot part (length pending) →
      h.regs 31 < 2 ^ 28 → Result (step p h s)
  member_law k own fits w c below e x3 small =
      let (m, (is, here)) = member_at members k fits.2.each below in
      let low = is.1 in
      let few = store_size-small m.op in
      let place : address h 31 m.distance ≡ h.regs 31 + m.distance = member_address (h.regs 31) (h.regs 31) m.distance refl small low in
      let can = can_store_near p (h.regs 31 + m.distance) (store_size m.op) (omega arith) few in
      let memory : Memory = write (store_size m.op) s.memory (h.regs 31 + m.distance) (get_reg h.regs m.value) in
      let kept = kept_data own.low c.kept memory
      (λ j high. write_outside (store_size m.op) s.memory (h.regs 31 + m.distance) _ j (inr (omega arith))) in
      let counted = mask_counted mask rs1 imm in
      at_word Result p h c w (length (mask_instrs mask rs1 imm) + k) (member_instr m)
      (slice_get-back (mask_instrs mask rs1 imm) (map member_instr members) k ∙ here) (omega arith)
      (rw (place, can) (member_done k (record s { memory = memory }) below e x3 small (record { going = c.going; kept = kept })))

module _ (p : Profile) (part : ℕ) (image base : Memory) (rs1 imm : ℕ) (members : List Member) (at : ℕ)
    (pending : List ℕ) (r : Registers) (h : Hart) (s : Shared) where
  abbrev Masks : Mask → After → Type 0
  Masks mask = Outcome p part image base (body (V.Stores mask rs1 imm members)) at pending r

  mask_law : (mask : Mask) → Fits (V.Stores mask rs1 imm members) at → Stand image at (instrs_of (V.Stores mask rs1 imm members) at) →
      Context part image base pending s → InMask mask part at (length pending) h → Masks mask (step p h s)
  mask_law Shifts fits w c (shifts_addi e x3) =
      at_word (Masks Shifts) p h c w 0 _ refl (omega arith) (stays refl c (omega arith) (stores_mask (shifts_slli (omega arith) x3)))
  mask_law Shifts fits w c (shifts_slli e x3) =
      at_word (Masks Shifts) p h c w 1 _ refl e (stays refl c (omega arith) (stores_mask (shifts_srli (omega arith) x3 (omega arith))))
  mask_law Shifts fits w c (shifts_srli e x3 small) =
      at_word (Masks Shifts) p h c w 2 _ refl e (stays refl c (omega arith) (stores_store 0 fits.2.some (omega arith) x3 (omega arith)))
  mask_law Short fits w c (short_and e x3 x4) =
      at_word (Masks Short) p h c w 0 _ refl (omega arith)
      (stays refl c (omega arith) (stores_store 0 fits.2.some (omega arith) x3 (mask_below (get_reg h.regs rs1) (h.regs 4) x4)))
  mask_law Long fits w c (long_addi e x3 x4) =
      at_word (Masks Long) p h c w 0 _ refl (omega arith) (stays refl c (omega arith) (stores_mask (long_and (omega arith) x3 x4)))
  mask_law Long fits w c (long_and e x3 x4) =
      at_word (Masks Long) p h c w 1 _ refl e
      (stays refl c (omega arith) (stores_store 0 fits.2.some (omega arith) x3 (mask_below (h.regs 31) (h.regs 4) x4)))

  pub stores_law : (mask : Mask) → IsPart p part → Fits (V.Stores mask rs1 imm members) at → Stand image at (instrs_of (V.Stores mask rs1 imm members) at) →
      Context part image base pending s → InStores mask part at (length members) (length pending) h → Masks mask (step p h s)
  stores_law mask own fits w c (stores_mask i) = mask_law mask fits w c i
  stores_law mask own fits w c (stores_store k below e x3 small) =
      member_law p part image base mask rs1 imm members at pending r h s k own fits w c below e x3 small
