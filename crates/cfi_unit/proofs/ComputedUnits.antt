-- Computed jumps and calls: a check, for a call a push, then the jump.
use Rattle.std.proofs.Common.{◌≡◌, ℕ, ◌+◌, ◌*◌, ◌/◌, ◌^◌, ◌<◌, ◌≤◌, inl, inr, List, ◌∷◌, length, refl, subst, ◌∙◌, arith}
use Rattle.rv_image.specs.MemoryMap.{Profile}
use Rattle.rv_word.specs.Memory.{Memory}
use Rattle.rv_instr.specs.Registers.{Registers}
use Rattle.rv_code.specs.State.{Hart, Shared, After}
use Rattle.rv_code.specs.Step.{step, address}
use Rattle.cfi_unit.specs.declared.target_word.TargetWord.{TargetWord}
use Rattle.cfi_unit.specs.declared.target_word.TargetWord.TheVariants.{First}
use Rattle.cfi_unit.specs.declared.unit.Unit.TheVariants as V
use Rattle.cfi_unit.specs.UnitWords.{Fits, DEEP, Reaches, push, check, instrs_of}
use Rattle.cfi_unit.specs.Place.{body}
use Rattle.cfi_unit.specs.Shadow.{IsPart, MOST_PENDING}
use Rattle.cfi_unit.specs.Stand.{Stand}
use Rattle.cfi_unit.specs.Context.{Context}
use Rattle.cfi_unit.specs.Leads.{HasLabel, sum_of, destination}
use Rattle.cfi_unit.specs.InPlace.{InIjump, ijump_check, ijump_jump, InIcall, icall_check, icall_push, icall_jump, push_slli}
use Rattle.cfi_unit.specs.UnitLaw.{Outcome, stays, leaves}
use Rattle.cfi_unit.proofs.Context.{at_word, stand_front, stand_back, kept_pending}
use Rattle.cfi_unit.proofs.Check.{AfterCheck, check_inside, check_done, check_halts, check_law}
use Rattle.cfi_unit.proofs.Push.{AfterPush, push_inside, push_done, push_halts, push_law}

-- the jump to x31 clears its lowest bit, which is 0
pub arrives : {image : Memory} {which : TargetWord} {label : ℕ} (h : Hart) (v : ℕ) → h.regs 31 ≡ v → HasLabel image which label v → address h 31 0 / 2 * 2 ≡ v
arrives h v is legal = let round = legal.round in let high = legal.high in omega arith

module _ (p : Profile) (part : ℕ) (image base : Memory) (rs1 imm label at : ℕ) (pending : List ℕ) (r : Registers) where
  ijump_from : (which : TargetWord) (after : After) → AfterCheck part image base which at rs1 imm label (sum_of r rs1 imm) (destination r rs1 imm) pending after →
      Outcome p part image base (body (V.Ijump which rs1 imm label)) at pending r after
  ijump_from which after (check_inside t c low i) = stays t c low (ijump_check i)
  ijump_from which after (check_done t c e checked) = stays t c (omega arith) (ijump_jump e checked)
  ijump_from which after (check_halts t c e other) = leaves pending t c (inr (omega arith)) (inr (other, (refl, e)))

  icall_from_check : (after : After) → AfterCheck part image base First at rs1 imm label (sum_of r rs1 imm) (destination r rs1 imm) pending after →
      Outcome p part image base (body (V.Icall rs1 imm label)) at pending r after
  icall_from_check after (check_inside t c low i) = stays t c low (icall_check i)
  icall_from_check after (check_done t c e checked) =
      stays t c (omega arith) (icall_push checked.legal (push_slli e checked.destination_is checked.pointer))
  icall_from_check after (check_halts t c e other) = leaves pending t c (inr (omega arith)) (inr (other, (refl, e)))

  icall_from_push : (after : After) → HasLabel image First label (destination r rs1 imm) →
      AfterPush part image base (at + 48) (destination r rs1 imm) pending after →
      Outcome p part image base (body (V.Icall rs1 imm label)) at pending r after
  icall_from_push after legal (push_inside t c low i) = stays t c (omega arith) (icall_push legal i)
  icall_from_push after legal (push_done t c e pushed) =
      stays t c (omega arith)
      (icall_jump (omega arith) legal
      (record { kept = pushed.kept; pointer = pushed.pointer; room = pushed.room; site_is = pushed.site_is ∙ omega arith }))
  icall_from_push after legal (push_halts t c e full) = leaves pending t c (inr (omega arith)) (inl (legal, inr (full, refl, e)))

  module _ (h : Hart) (s : Shared) where
    pub ijump_law : (which : TargetWord) → ((k : ℕ) → image k < 2 ^ 8) → Fits (V.Ijump which rs1 imm label) at → Stand image at (instrs_of (V.Ijump which rs1 imm label) at) →
        Context part image base pending s →
        InIjump part image which at rs1 imm label (sum_of r rs1 imm) (destination r rs1 imm) (length pending) h →
        Outcome p part image base (body (V.Ijump which rs1 imm label)) at pending r (step p h s)
    ijump_law which small fits w c (ijump_check i) =
        ijump_from which (step p h s)
        (check_law p part image base which at rs1 imm label (sum_of r rs1 imm) (destination r rs1 imm) pending h s small fits
        (omega arith) refl (stand_front (check at rs1 imm label which) _ w) c i)
    ijump_law which small fits w c (ijump_jump e checked) =
        at_word (Outcome p part image base _ at pending r) p h c w 12 _ refl e
        (leaves pending refl c (inl (checked.pointer, tt))
        (inl (checked.legal, (refl, arrives h (destination r rs1 imm) checked.destination_is checked.legal))))

    pub icall_law : IsPart p part → length pending ≤ MOST_PENDING → ((k : ℕ) → image k < 2 ^ 8) → Fits (V.Icall rs1 imm label) at →
        Stand image at (instrs_of (V.Icall rs1 imm label) at) → Context part image base pending s →
        InIcall part image at rs1 imm label (sum_of r rs1 imm) (destination r rs1 imm) (length pending) h s.memory →
        Outcome p part image base (body (V.Icall rs1 imm label)) at pending r (step p h s)
    icall_law own most small fits w c (icall_check i) =
        icall_from_check (step p h s)
        (check_law p part image base First at rs1 imm label (sum_of r rs1 imm) (destination r rs1 imm) pending h s small fits.0
        (omega arith) refl (stand_front (check at rs1 imm label First) _ w) c i)
    icall_law own most small fits w c (icall_push legal i) =
        let next : at + 56 ≡ at + 48 + 8 = omega arith in
        icall_from_push (step p h s) legal
        (push_law p part image base (at + 48) (destination r rs1 imm) pending h s own most (subst (λ a. Reaches a DEEP) next fits.1)
        (stand_front (push (at + 48)) _ (stand_back (check at rs1 imm label First) _ w)) c i)
    icall_law own most small fits w c (icall_jump e legal pushed) =
        at_word (Outcome p part image base _ at pending r) p h c w 19 _ refl e
        (leaves ((at + 80) ∷ pending) refl
        (record { going = c.going; kept = kept_pending (at + 80) c.kept pushed.site_is })
        (inl (pushed.pointer, tt))
        (inl (legal, inl (pushed.room, refl, arrives h (destination r rs1 imm) pushed.kept legal))))
