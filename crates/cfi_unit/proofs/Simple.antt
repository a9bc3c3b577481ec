-- Units of one word, and branches.
use Rattle.std.proofs.Common.{◌≡◌, ℕ, zero, suc, ◌+◌, ◌*◌, ◌/◌, true, not, inl, inr, List, length, refl, subst, sym, ap, ◌∙◌, arith}
use Rattle.std.proofs.lemmas.Bool.{cases_Bool, and_parts}
use Rattle.std.proofs.lemmas.Bool.Decides.{nat_tests}
use Rattle.rv_word.specs.Bits.{wrap}
use Rattle.rv_image.specs.MemoryMap.{Profile, can_load}
use Rattle.rv_word.specs.Memory.{Memory}
use Rattle.rv_instr.specs.Registers.{Registers, get_reg, set_reg}
use Rattle.rv_instr.specs.Reserved.{is_reserved}
use Rattle.rv_instr.specs.declared.instr.Instr.{Instr}
use Rattle.rv_instr.specs.declared.instr.Instr.TheVariants.{Upper, Jal, Jalr, Branch, Load, Store, Immediate, Shift, ShiftWord, Register, Fence, Ecall, Ebreak}
use Rattle.rv_instr.specs.declared.instr.UpperOp.TheVariants.{Lui, Auipc}
use Rattle.rv_instr.specs.declared.instr.BranchOp.{BranchOp}
use Rattle.rv_code.specs.Arithmetic.{branch_taken, load_size}
use Rattle.rv_code.specs.State.{Hart, Shared, After}
use Rattle.rv_code.specs.Step.{step, exec, puts, address, offset}
use Rattle.rv_code.specs.declared.turn.Turn.TheVariants.{Break, LoadFault}
use Rattle.rv_code.proofs.Calls.{AfterCall, answered, ended, after_call}
use Rattle.cfi_unit.specs.declared.unit.Unit as U
use Rattle.cfi_unit.specs.declared.unit.Unit.TheVariants as V
use Rattle.cfi_unit.specs.declared.unit.SystemOp.TheVariants as S
use Rattle.cfi_unit.specs.UnitWords.{BAD_TARGET, Fits, instrs_of, is_plain}
use Rattle.cfi_unit.specs.Place.{body}
use Rattle.cfi_unit.specs.Shadow.{IsPart, slot}
use Rattle.cfi_unit.specs.Stand.{Stand}
use Rattle.cfi_unit.specs.Context.{Context, Kept}
use Rattle.cfi_unit.specs.InPlace.{InWord, only, InBranch, branch_test, branch_jump, InLeafReturn, leaf_jump}
use Rattle.cfi_unit.specs.UnitLaw.{Outcome, stays, leaves, ends}
use Rattle.cfi_unit.proofs.Context.{at_word, kept_data}
use Rattle.cfi_unit.proofs.Jumps.{jump_leads, near_leads}

-- a register that is not reserved is not x3
pub keeps_x3 : (regs : Registers) (rd v : ℕ) → not (is_reserved rd) ≡ true → set_reg regs rd v 3 ≡ regs 3
keeps_x3 regs zero v free = refl
keeps_x3 regs (suc rd) v free = grind (arith, nat_tests)

module _ (p : Profile) (part : ℕ) (image base : Memory) (at : ℕ) (pending : List ℕ) (r : Registers) (h : Hart) (s : Shared) where
  abbrev Result : U.Unit → After → Type 0
  Result unit = Outcome p part image base (body unit) at pending r

  -- an instruction that puts a value into a register that is not reserved
  puts_so : (i : Instr) (rd v : ℕ) → Context part image base pending s → h.pc ≡ at → h.regs 3 ≡ slot part (length pending) →
      not (is_reserved rd) ≡ true → Result (V.Plain i) (puts h s rd v)
  puts_so i rd v c e x3 free = leaves pending refl c (inl (keeps_x3 h.regs rd v free ∙ x3, tt)) (refl, omega arith)

  plain_so : (i : Instr) → Context part image base pending s → h.pc ≡ at → h.regs 3 ≡ slot part (length pending) →
      is_plain i ≡ true → Result (V.Plain i) (exec p i h s)
  plain_so (Upper Lui rd imm) c e x3 plain = puts_so _ rd _ c e x3 (and_parts _ _ plain).0
  plain_so (Upper Auipc rd imm) c e x3 plain = puts_so _ rd _ c e x3 (and_parts _ _ plain).0
  plain_so (Jal rd imm) c e x3 plain = absurd (cc)
  plain_so (Jalr rd rs1 imm) c e x3 plain = absurd (cc)
  plain_so (Branch op rs1 rs2 imm) c e x3 plain = absurd (cc)
  plain_so (Load op rd rs1 imm) c e x3 plain =
      elim (cases_Bool (can_load p (address h rs1 imm) (load_size op))) [
        | inl can ↦ rw can (puts_so _ rd _ c e x3 plain)
        | inr cannot ↦ rw cannot (ends (address h rs1 imm, ap (λ a. LoadFault a (address h rs1 imm)) e) c.kept)
      ]
  plain_so (Store op rs1 rs2 imm) c e x3 plain = absurd (cc)
  plain_so (Immediate op rd rs1 imm) c e x3 plain = puts_so _ rd _ c e x3 plain
  plain_so (Shift op rd rs1 amount) c e x3 plain = puts_so _ rd _ c e x3 plain
  plain_so (ShiftWord op rd rs1 amount) c e x3 plain = puts_so _ rd _ c e x3 plain
  plain_so (Register op rd rs1 rs2) c e x3 plain = puts_so _ rd _ c e x3 plain
  plain_so (Fence word) c e x3 plain = leaves pending refl c (inl (x3, tt)) (refl, omega arith)
  plain_so Ecall c e x3 plain = absurd (cc)
  plain_so Ebreak c e x3 plain = absurd (cc)

  pub plain_law : (i : Instr) → Fits (V.Plain i) at → Stand image at (instrs_of (V.Plain i) at) → Context part image base pending s →
      InWord part at (length pending) h → Result (V.Plain i) (step p h s)
  plain_law i fits w c (only e x3) = at_word (Result (V.Plain i)) p h c w 0 _ refl (omega arith) (plain_so i c e x3 fits.1)

  pub gate_law : (label : ℕ) → Stand image at (instrs_of (V.Gate label) at) → Context part image base pending s →
      InWord part at (length pending) h → Result (V.Gate label) (step p h s)
  gate_law label w c (only e x3) =
      at_word (Result (V.Gate label)) p h c w 0 _ refl (omega arith) (leaves pending refl c (inl (x3, tt)) (refl, omega arith))

  pub jump_law : (target : ℕ) → Fits (V.Jump target) at → Stand image at (instrs_of (V.Jump target) at) → Context part image base pending s →
      InWord part at (length pending) h → Result (V.Jump target) (step p h s)
  jump_law target fits w c (only e x3) =
      at_word (Result (V.Jump target)) p h c w 0 _ refl (omega arith)
      (leaves pending refl c (inl (x3, tt)) (refl, jump_leads h.pc at target e fits.1))

  pub stop_law : Fits V.Stop at → Stand image at (instrs_of V.Stop at) → Context part image base pending s →
      InWord part at (length pending) h → Result V.Stop (step p h s)
  stop_law fits w c (only e x3) =
      at_word (Result V.Stop) p h c w 0 _ refl (omega arith) (leaves pending refl c (inl (x3, tt)) (refl, jump_leads h.pc at BAD_TARGET e fits))

  pub link_call_law : (target : ℕ) → Fits (V.LinkCall target) at → Stand image at (instrs_of (V.LinkCall target) at) → Context part image base pending s →
      InWord part at (length pending) h → Result (V.LinkCall target) (step p h s)
  link_call_law target fits w c (only e x3) =
      at_word (Result (V.LinkCall target)) p h c w 0 _ refl (omega arith)
      (leaves pending refl c (inl (x3, omega arith)) (refl, jump_leads h.pc at target e fits))

  pub leaf_return_law : Stand image at (instrs_of V.LeafReturn at) → Context part image base pending s →
      InLeafReturn part at (r 1) (length pending) h → Result V.LeafReturn (step p h s)
  leaf_return_law w c (leaf_jump e x3 x1) =
      at_word (Result V.LeafReturn) p h c w 0 _ refl (omega arith)
      (leaves pending refl c (inl (x3, tt)) (refl, ap (λ x. wrap (x + offset 12 0) / 2 * 2) x1))

  pub branch_law : (op : BranchOp) (rs1 rs2 target : ℕ) → Fits (V.Branch op rs1 rs2 target) at →
      Stand image at (instrs_of (V.Branch op rs1 rs2 target) at) → Context part image base pending s →
      InBranch part at (length pending) h → Result (V.Branch op rs1 rs2 target) (step p h s)
  branch_law op rs1 rs2 target fits w c (branch_test e x3) =
      at_word (Result (V.Branch op rs1 rs2 target)) p h c w 0 _ refl (omega arith)
      (elim (cases_Bool (branch_taken op (get_reg h.regs rs1) (get_reg h.regs rs2))) [
        | inl taken ↦ rw taken (leaves pending refl c (inl (x3, tt)) (inl (refl, omega arith)))
        | inr not_taken ↦ rw not_taken (stays refl c (omega arith) (branch_jump (omega arith) x3))
      ])
  branch_law op rs1 rs2 target fits w c (branch_jump e x3) =
      at_word (Result (V.Branch op rs1 rs2 target)) p h c w 1 _ refl e
      (leaves pending refl c (inl (x3, tt)) (inr (refl, jump_leads h.pc (at + 4) target e fits.2)))

  pub near_law : (op : BranchOp) (rs1 rs2 target : ℕ) → Fits (V.Near op rs1 rs2 target) at →
      Stand image at (instrs_of (V.Near op rs1 rs2 target) at) → Context part image base pending s →
      InWord part at (length pending) h → Result (V.Near op rs1 rs2 target) (step p h s)
  near_law op rs1 rs2 target fits w c (only e x3) =
      at_word (Result (V.Near op rs1 rs2 target)) p h c w 0 _ refl (omega arith)
      (elim (cases_Bool (branch_taken op (get_reg h.regs rs1) (get_reg h.regs rs2))) [
        | inl taken ↦ rw taken (leaves pending refl c (inl (x3, tt)) (inr (refl, near_leads h.pc at target e fits.2)))
        | inr not_taken ↦ rw not_taken (leaves pending refl c (inl (x3, tt)) (inl (refl, omega arith)))
      ])

  ecall_so : IsPart p part → (after : After) → AfterCall h s after → Context part image base pending s → h.pc ≡ at →
      h.regs 3 ≡ slot part (length pending) → Result (V.System S.Ecall) after
  ecall_so own after (answered t pc regs going same) c e x3 =
      leaves pending t (record { going = going; kept = kept_data own.low c.kept after.shared.memory (λ k high. same k (omega arith)) })
      (inl (regs 3 (omega arith) ∙ x3, tt)) (refl, omega arith)
  ecall_so own after (ended status t same) c e x3 = ends (status, t) (subst (Kept part image base pending) (sym same) c.kept)

  pub ecall_law : IsPart p part → Stand image at (instrs_of (V.System S.Ecall) at) → Context part image base pending s →
      InWord part at (length pending) h → Result (V.System S.Ecall) (step p h s)
  ecall_law own w c (only e x3) =
      at_word (Result (V.System S.Ecall)) p h c w 0 _ refl (omega arith) (ecall_so own _ (after_call h s) c e x3)

  pub ebreak_law : Stand image at (instrs_of (V.System S.Ebreak) at) → Context part image base pending s →
      InWord part at (length pending) h → Result (V.System S.Ebreak) (step p h s)
  ebreak_law w c (only e x3) = at_word (Result (V.System S.Ebreak)) p h c w 0 _ refl (omega arith) (ends (ap Break e) c.kept)
