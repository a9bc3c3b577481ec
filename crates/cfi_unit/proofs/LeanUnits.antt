-- Computed jumps and calls that make the mask of stores again: a check, the two words that put the mask
-- into x4, then the jump.
use Rattle.std.proofs.Common.{◌≡◌, ℕ, ◌+◌, ◌*◌, ◌/◌, ◌^◌, ◌<◌, inl, inr, List, [], ◌∷◌, ◌++◌, length, refl, ap, arith}
use Rattle.rv_word.specs.Bits.{wrap}
use Rattle.rv_image.specs.MemoryMap.{Profile}
use Rattle.rv_word.specs.Memory.{Memory}
use Rattle.rv_instr.specs.Registers.{Registers}
use Rattle.rv_instr.specs.declared.instr.Instr.{Instr}
use Rattle.rv_code.specs.State.{Hart, Shared, After}
use Rattle.rv_code.specs.Step.{step, address, offset}
use Rattle.rv_code.specs.declared.turn.Turn.TheVariants.{Ran}
use Rattle.cfi_unit.specs.declared.target_word.TargetWord.{TargetWord}
use Rattle.cfi_unit.specs.declared.target_word.TargetWord.TheVariants.{First, Third}
use Rattle.cfi_unit.specs.declared.unit.Unit.TheVariants as V
use Rattle.cfi_unit.specs.UnitWords.{BAD_TARGET, CheckFits, Fits, MINUS_ONE, STORE_MASK, check, instrs_of, mask_made}
use Rattle.cfi_unit.specs.Place.{body}
use Rattle.cfi_unit.specs.Stand.{Stand}
use Rattle.cfi_unit.specs.Context.{Context}
use Rattle.cfi_unit.specs.Leads.{HasLabel, sum_of, destination}
use Rattle.cfi_unit.specs.InPlace.{Checked, InLean, lean_check, lean_upper, lean_lower, lean_jump}
use Rattle.cfi_unit.specs.UnitLaw.{Outcome, stays, leaves}
use Rattle.cfi_unit.proofs.Context.{at_word, stand_front}
use Rattle.cfi_unit.proofs.Check.{AfterCheck, check_inside, check_done, check_halts, check_law}
use Rattle.cfi_unit.proofs.ComputedUnits.{arrives}

-- eight bytes past x31 too
pub arrives_beyond : {image : Memory} {which : TargetWord} {label : ℕ} (h : Hart) (v : ℕ) → h.regs 31 ≡ v → HasLabel image which label v →
    address h 31 8 / 2 * 2 ≡ v + 8
arrives_beyond h v is legal = let round = legal.round in let high = legal.high in omega arith

-- a step from a word before the jump, or the hart is at the jump
pub data AfterLean (part : ℕ) (image base : Memory) (which : TargetWord) (at rs1 imm label sum v : ℕ) (pending : List ℕ) (h : Hart) (after : After) : Type 0 where
  lean_inside : after.turn ≡ Ran → Context part image base pending after.shared → at < after.hart.pc →
      InLean part image which at rs1 imm label sum v (length pending) after.hart →
      AfterLean part image base which at rs1 imm label sum v pending h after
  lean_halts : after.turn ≡ Ran → Context part image base pending after.shared → after.hart.pc ≡ BAD_TARGET →
      (HasLabel image which label v → ⊥) → AfterLean part image base which at rs1 imm label sum v pending h after
  lean_last : h.pc ≡ at + 56 → Checked part image which label v (length pending) h → h.regs 4 ≡ STORE_MASK →
      AfterLean part image base which at rs1 imm label sum v pending h after

module _ (p : Profile) (part : ℕ) (image base : Memory) (which : TargetWord) (at rs1 imm label sum v : ℕ) (pending : List ℕ) (h : Hart) (s : Shared) where
  abbrev Result : After → Type 0
  Result = AfterLean part image base which at rs1 imm label sum v pending h

  after_check : (after : After) → AfterCheck part image base which at rs1 imm label sum v pending after → Result after
  after_check after (check_inside t c low i) = lean_inside t c low (lean_check i)
  after_check after (check_done t c e checked) = lean_inside t c (omega arith) (lean_upper e checked)
  after_check after (check_halts t c e other) = lean_halts t c e other

  pub lean_law : (last : Instr) → ((k : ℕ) → image k < 2 ^ 8) → CheckFits at rs1 imm label → sum < 2 ^ 64 → v ≡ sum / 4 * 4 →
      Stand image at (check at rs1 imm label which ++ mask_made ++ last ∷ []) → Context part image base pending s →
      InLean part image which at rs1 imm label sum v (length pending) h → Result (step p h s)
  lean_law last small fits low v_is w c (lean_check i) =
      after_check (step p h s)
      (check_law p part image base which at rs1 imm label sum v pending h s small fits low v_is (stand_front (check at rs1 imm label which) _ w) c i)
  lean_law last small fits low v_is w c (lean_upper e checked) =
      at_word Result p h c w 12 _ refl e
      (lean_inside refl c (omega arith)
      (lean_lower (omega arith) (record { destination_is = checked.destination_is; pointer = checked.pointer; legal = checked.legal }) refl))
  lean_law last small fits low v_is w c (lean_lower e checked x4) =
      at_word Result p h c w 13 _ refl e
      (lean_inside refl c (omega arith)
      (lean_jump (omega arith) (record { destination_is = checked.destination_is; pointer = checked.pointer; legal = checked.legal })
      (ap (λ x. wrap (x + offset 12 MINUS_ONE)) x4)))
  lean_law last small fits low v_is w c (lean_jump e checked x4) = lean_last e checked x4

module _ (p : Profile) (part : ℕ) (image base : Memory) (rs1 imm label at : ℕ) (pending : List ℕ) (r : Registers) (h : Hart) (s : Shared) where
  -- what the check and the mask's two words leave
  abbrev Left : TargetWord → Type 0
  Left which = AfterLean part image base which at rs1 imm label (sum_of r rs1 imm) (destination r rs1 imm) pending h (step p h s)

  lean_ijump_so : Stand image at (instrs_of (V.LeanIjump rs1 imm label) at) → Context part image base pending s → Left First →
      Outcome p part image base (body (V.LeanIjump rs1 imm label)) at pending r (step p h s)
  lean_ijump_so w c (lean_inside t c' low i) = stays t c' low i
  lean_ijump_so w c (lean_halts t c' e other) = leaves pending t c' (inr (omega arith)) (inr (other, (refl, e)))
  lean_ijump_so w c (lean_last e checked x4) =
      at_word (Outcome p part image base _ at pending r) p h c w 14 _ refl e
      (leaves pending refl c (inl (checked.pointer, x4))
      (inl (checked.legal, (refl, arrives h (destination r rs1 imm) checked.destination_is checked.legal))))

  lean_icall_so : Stand image at (instrs_of (V.LeanIcall rs1 imm label) at) → Context part image base pending s → Left Third →
      Outcome p part image base (body (V.LeanIcall rs1 imm label)) at pending r (step p h s)
  lean_icall_so w c (lean_inside t c' low i) = stays t c' low i
  lean_icall_so w c (lean_halts t c' e other) = leaves pending t c' (inr (omega arith)) (inr (other, (refl, e)))
  lean_icall_so w c (lean_last e checked x4) =
      at_word (Outcome p part image base _ at pending r) p h c w 14 _ refl e
      (leaves pending refl c (inl (checked.pointer, (omega arith, x4)))
      (inl (checked.legal, (refl, arrives_beyond h (destination r rs1 imm) checked.destination_is checked.legal))))

  pub lean_ijump_law : ((k : ℕ) → image k < 2 ^ 8) → Fits (V.LeanIjump rs1 imm label) at → Stand image at (instrs_of (V.LeanIjump rs1 imm label) at) →
      Context part image base pending s →
      InLean part image First at rs1 imm label (sum_of r rs1 imm) (destination r rs1 imm) (length pending) h →
      Outcome p part image base (body (V.LeanIjump rs1 imm label)) at pending r (step p h s)
  lean_ijump_law small fits w c i =
      lean_ijump_so w c
      (lean_law p part image base First at rs1 imm label (sum_of r rs1 imm) (destination r rs1 imm) pending h s _ small fits (omega arith) refl w c i)

  pub lean_icall_law : ((k : ℕ) → image k < 2 ^ 8) → Fits (V.LeanIcall rs1 imm label) at → Stand image at (instrs_of (V.LeanIcall rs1 imm label) at) →
      Context part image base pending s →
      InLean part image Third at rs1 imm label (sum_of r rs1 imm) (destination r rs1 imm) (length pending) h →
      Outcome p part image base (body (V.LeanIcall rs1 imm label)) at pending r (step p h s)
  lean_icall_law small fits w c i =
      lean_icall_so w c
      (lean_law p part image base Third at rs1 imm label (sum_of r rs1 imm) (destination r rs1 imm) pending h s _ small fits (omega arith) refl w c i)
