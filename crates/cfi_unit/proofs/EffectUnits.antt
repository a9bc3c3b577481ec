-- What units of one word and branches do.
use Rattle.std.proofs.Common.{◌≡◌, ◌≢◌, ℕ, zero, suc, ◌+◌, ◌==◌, ◌||◌, ◌^◌, inl, inr, true, false, not, List, length, Some, refl, sym, ap, subst, ◌∙◌, arith}
use Rattle.std.specs.Prelude.{nat_le}
use Rattle.std.proofs.lemmas.Bool.{and_parts, cases_Bool, cond_both, ne_eqb}
use Rattle.rv_image.specs.MemoryMap.{Profile, can_load}
use Rattle.rv_word.specs.Memory.{Memory, read}
use Rattle.rv_instr.specs.Registers.{Registers, get_reg, set_reg}
use Rattle.rv_instr.specs.Reserved.{is_reserved}
use Rattle.rv_instr.specs.declared.instr.Instr.{Instr}
use Rattle.rv_instr.specs.declared.instr.Instr.TheVariants.{Upper, Jal, Jalr, Branch, Load, Store, Immediate, Shift, ShiftWord, Register, Fence, Ecall, Ebreak}
use Rattle.rv_instr.specs.declared.instr.UpperOp.TheVariants.{Lui, Auipc}
use Rattle.rv_instr.specs.declared.instr.BranchOp.{BranchOp}
use Rattle.rv_code.specs.Arithmetic.{branch_taken, load_size, load_result}
use Rattle.rv_code.specs.State.{Hart, Shared, After}
use Rattle.rv_code.specs.Step.{exec, puts, stops, address}
use Rattle.rv_code.specs.SystemCall.{system_call, write_call, read_call}
use Rattle.rv_code.specs.declared.turn.Turn.TheVariants.{Ran, Break, LoadFault}
use Rattle.rv_code.proofs.Calls.{AfterCall, answered, ended, after_call}
use Rattle.cfi_unit.specs.declared.unit.Unit as U
use Rattle.cfi_unit.specs.declared.unit.Unit.TheVariants as V
use Rattle.cfi_unit.specs.declared.unit.SystemOp.TheVariants as S
use Rattle.cfi_unit.specs.UnitWords.{BAD_TARGET, Fits, instrs_of, is_plain}
use Rattle.cfi_unit.specs.Shadow.{slot}
use Rattle.cfi_unit.specs.Stand.{Stand}
use Rattle.cfi_unit.specs.Context.{Context, Kept}
use Rattle.cfi_unit.specs.Leaving.{LeftTo, HaltsAt, Executes, SameScratch, result_register}
use Rattle.cfi_unit.specs.EffectLaw.{UnitIsDone}
use Rattle.cfi_unit.proofs.Context.{kept_data}
use Rattle.cfi_unit.proofs.Jumps.{near_leads}
use Rattle.cfi_unit.proofs.EffectSteps.{Now, RunsOn, before, moved, onto, onto_branch, onto_jump}

pub set_other : (regs : Registers) (rd v k : ℕ) → (rd ≡ k → ⊥) → set_reg regs rd v k ≡ regs k
set_other regs zero v k apart = refl
set_other regs (suc rd) v k apart = rw (ne_eqb k (suc rd) (λ e. apart (sym e))) refl

-- a plain instruction writes no reserved register
spared : (rd k : ℕ) → not (is_reserved rd) ≡ true → is_reserved k ≡ true → Some rd ≡ Some k → ⊥
spared rd k free reserved same =
    let e : rd ≡ k = cc in
    let t : is_reserved rd ≡ true = ap is_reserved e ∙ reserved in
    let f : not (is_reserved rd) ≡ false = ap not t in
    cc

pub plain_spares : (i : Instr) → is_plain i ≡ true → (k : ℕ) → is_reserved k ≡ true → result_register i ≡ Some k → ⊥
plain_spares (Upper Lui rd imm) plain k reserved same = spared rd k (and_parts _ _ plain).0 reserved same
plain_spares (Upper Auipc rd imm) plain k reserved same = spared rd k (and_parts _ _ plain).0 reserved same
plain_spares (Load op rd rs1 imm) plain k reserved same = spared rd k plain reserved same
plain_spares (Immediate op rd rs1 imm) plain k reserved same = spared rd k plain reserved same
plain_spares (Shift op rd rs1 amount) plain k reserved same = spared rd k plain reserved same
plain_spares (ShiftWord op rd rs1 amount) plain k reserved same = spared rd k plain reserved same
plain_spares (Register op rd rs1 rs2) plain k reserved same = spared rd k plain reserved same
plain_spares (Fence word) plain k reserved same = cc
plain_spares other plain k reserved same = cc

-- a system call writes no register but x10
module _ (h : Hart) (s : Shared) (k : ℕ) (other : k ≢ 10) where
  abbrev Keeps : After → Type 0
  Keeps after = after.hart.regs k ≡ h.regs k

  answer_keeps : (answer : ℕ) → set_reg h.regs 10 answer k ≡ h.regs k
  answer_keeps answer = set_other h.regs 10 answer k (λ e. other (sym e))

  write_keeps : Keeps (write_call h s)
  write_keeps =
      cond_both (h.regs 10 == 1 || h.regs 10 == 2) _ _ Keeps
      (λ right. cond_both (nat_le (h.regs 11 + h.regs 12) (2 ^ 28)) _ _ Keeps (λ inside. answer_keeps _) (λ outside. answer_keeps _))
      (λ wrong. answer_keeps _)

  read_keeps : Keeps (read_call h s)
  read_keeps =
      cond_both (h.regs 10 == 0) _ _ Keeps
      (λ right. cond_both (nat_le (h.regs 11 + h.regs 12) (2 ^ 28)) _ _ Keeps (λ inside. answer_keeps _) (λ outside. answer_keeps _))
      (λ wrong. answer_keeps _)

  pub call_keeps : Keeps (system_call h s)
  call_keeps =
      cond_both (h.regs 17 == 64) _ _ Keeps (λ is. write_keeps)
      (λ no. cond_both (h.regs 17 == 63) _ _ Keeps (λ is. read_keeps)
      (λ nor. cond_both (h.regs 17 == 93 || h.regs 17 == 94) _ _ Keeps (λ is. refl) (λ rest. answer_keeps _)))

module _ {may : Shared → Shared → Type 0} {p : Profile} {part : ℕ} {image base : Memory} {pending : List ℕ} {r : Registers} {start : Shared} {h : Hart} {s : Shared} where
  pub left_to : (next : ℕ) → Now may p part image base pending r start h s → h.pc ≡ next → h.regs 3 ≡ slot part (length pending) →
      LeftTo part image base next pending r (may start) (before h s)
  left_to next now e x3 = record { turn = refl; pc = e; regs = now.same; pointer = x3; shared = now.since; context = now.context }

  pub halts_at : (handler : ℕ) → Now may p part image base pending r start h s → h.pc ≡ handler →
      HaltsAt part image base handler pending r (may start) (before h s)
  halts_at handler now e = record { turn = refl; pc = e; regs = now.same; shared = now.since; context = now.context }

  -- an instruction that leaves what is shared as it was
  executes_so : (i : Instr) (a : After) → Now may p part image base pending r start h s → exec p i h s ≡ a →
      (result_register i ≡ Some 3 → ⊥) → ((k : ℕ) → (result_register i ≡ Some k → ⊥) → a.hart.regs k ≡ h.regs k) → a.shared ≡ s → (a.turn ≡ Ran → a.hart.pc ≡ h.pc + 4) →
      Executes p part image base i pending h (may start) (exec p i h s)
  executes_so i a now does spares others same next = record {
    seen = s;
    may_see = now.since;
    executed = refl;
    others = λ k apart. ap (λ (x : After). x.hart.regs k) does ∙ others k apart;
    pointer = ap (λ (x : After). x.hart.regs 3) does ∙ others 3 spares;
    kept = subst (λ (x : Shared). Kept part image base pending x.memory) (sym (ap (λ (x : After). x.shared) does ∙ same)) now.context.kept;
    context = λ t. subst (λ (x : Shared). Context part image base pending x) (sym (ap (λ (x : After). x.shared) does ∙ same)) now.context;
    pc = λ t. ap (λ (x : After). x.hart.pc) does ∙ next (sym (ap (λ (x : After). x.turn) does) ∙ t);
  }

  executes_put : (i : Instr) (rd v : ℕ) → Now may p part image base pending r start h s → is_plain i ≡ true → result_register i ≡ Some rd → exec p i h s ≡ puts h s rd v →
      Executes p part image base i pending h (may start) (exec p i h s)
  executes_put i rd v now plain result does =
      executes_so i (puts h s rd v) now does (plain_spares i plain 3 refl) (λ k apart. set_other h.regs rd v k (λ e. apart (result ∙ ap Some e))) refl (λ t. refl)

  executes_plain : (i : Instr) → is_plain i ≡ true → Now may p part image base pending r start h s →
      Executes p part image base i pending h (may start) (exec p i h s)
  executes_plain (Upper Lui rd imm) plain now = executes_put _ rd _ now plain refl refl
  executes_plain (Upper Auipc rd imm) plain now = executes_put _ rd _ now plain refl refl
  executes_plain (Jal rd imm) plain now = absurd (cc)
  executes_plain (Jalr rd rs1 imm) plain now = absurd (cc)
  executes_plain (Branch op rs1 rs2 imm) plain now = absurd (cc)
  executes_plain (Load op rd rs1 imm) plain now =
      elim (cases_Bool (can_load p (address h rs1 imm) (load_size op))) [
        | inl can ↦ executes_put (Load op rd rs1 imm) rd (load_result op (read (load_size op) s.memory (address h rs1 imm))) now plain refl (rw can refl)
        | inr cannot ↦
            executes_so (Load op rd rs1 imm) (stops h s (LoadFault h.pc (address h rs1 imm))) now (rw cannot refl) (plain_spares (Load op rd rs1 imm) plain 3 refl) (λ k apart. refl) refl
            (λ t. absurd (cc))
      ]
  executes_plain (Store op rs1 rs2 imm) plain now = absurd (cc)
  executes_plain (Immediate op rd rs1 imm) plain now = executes_put _ rd _ now plain refl refl
  executes_plain (Shift op rd rs1 amount) plain now = executes_put _ rd _ now plain refl refl
  executes_plain (ShiftWord op rd rs1 amount) plain now = executes_put _ rd _ now plain refl refl
  executes_plain (Register op rd rs1 rs2) plain now = executes_put _ rd _ now plain refl refl
  executes_plain (Fence word) plain now = executes_so (Fence word) _ now refl (λ same. cc) (λ k apart. refl) refl (λ t. refl)
  executes_plain Ecall plain now = absurd (cc)
  executes_plain Ebreak plain now = absurd (cc)

  pub executes_call : (a : After) → a ≡ system_call h s → AfterCall h s a → Now may p part image base pending r start h s →
      Executes p part image base Ecall pending h (may start) a
  executes_call a does (answered t pc regs going same) now =
      let kept : Kept part image base pending a.shared.memory =
      kept_data (now.own.low) now.context.kept a.shared.memory (λ k high. same k (omega arith)) in
      record {
        seen = s;
        may_see = now.since;
        executed = does;
        others = λ k apart. regs k (λ e. apart (ap Some (sym e)));
        pointer = regs 3 (omega arith);
        kept = kept;
        context = λ is. record { going = going; kept = kept };
        pc = λ is. pc;
      }
  executes_call a does (ended status t same) now = record {
    seen = s;
    may_see = now.since;
    executed = does;
    others = λ k apart. ap (λ (x : After). x.hart.regs k) does ∙ call_keeps h s k (λ e. apart (ap Some (sym e)));
    pointer = ap (λ (x : After). x.hart.regs 3) does ∙ call_keeps h s 3 (omega arith);
    kept = subst (λ (m : Memory). Kept part image base pending m) (sym same) now.context.kept;
    context = λ is. absurd (cc);
    pc = λ is. absurd (cc);
  }

  executes_break : Now may p part image base pending r start h s → Executes p part image base Ebreak pending h (may start) (exec p Ebreak h s)
  executes_break now = executes_so Ebreak (stops h s (Break h.pc)) now refl (λ same. cc) (λ k apart. refl) refl (λ t. absurd (cc))

-- no register is written
pub none_written : (instrs : List Instr) (r : Registers) → SameScratch instrs r r
none_written instrs r = record { x4 = λ free. refl; x30 = λ free. refl; x31 = λ free. refl }

-- an instruction that may write other registers alone
others_written : (instrs : List Instr) (i : Instr) (r regs : Registers) → ((k : ℕ) → (result_register i ≡ Some k → ⊥) → regs k ≡ r k) →
    ((k : ℕ) → is_reserved k ≡ true → result_register i ≡ Some k → ⊥) → SameScratch instrs r regs
others_written instrs i r regs others spares = record {
  x4 = λ free. others 4 (spares 4 refl);
  x30 = λ free. others 30 (spares 30 refl);
  x31 = λ free. others 31 (spares 31 refl);
}

-- a system call's result is in x10
call_spares : (k : ℕ) → is_reserved k ≡ true → Some 10 ≡ Some k → ⊥
call_spares k reserved same = let e : 10 ≡ k = cc in let t : is_reserved 10 ≡ true = ap is_reserved e ∙ reserved in cc

break_spares : (k : ℕ) → is_reserved k ≡ true → result_register Ebreak ≡ Some k → ⊥
break_spares k reserved same = cc

-- the state at a unit's first word
module _ {may : Shared → Shared → Type 0} {p : Profile} {part : ℕ} {image base : Memory} {pending : List ℕ} {h : Hart} {s : Shared} (at : ℕ) (now : Now may p part image base pending h.regs s h s) (e : h.pc ≡ at) where
  abbrev Does : U.Unit → After → Type 0
  Does unit = UnitIsDone p part image base may h s unit at pending

  -- an instruction that is executed alone
  alone : (unit : List Instr) (i : Instr) (after : After) → ((k : ℕ) → is_reserved k ≡ true → result_register i ≡ Some k → ⊥) →
      Executes p part image base i pending h (may s) after → Executes p part image base i pending h (may s) after × SameScratch unit h.regs after.hart.regs × Unit {0}
  alone unit i after spares does = (does, others_written unit i h.regs after.hart.regs does.others spares, tt)

  pub plain_does : (i : Instr) → is_plain i ≡ true → Stand image at (instrs_of (V.Plain i) at) → RunsOn may p h.regs 0 (Does (V.Plain i)) (before h s)
  plain_does i plain w = onto 0 (Does (V.Plain i)) now w 0 (omega arith) i refl (λ s' on. alone (instrs_of (V.Plain i) at) i _ (plain_spares i plain) (executes_plain i plain on))

  pub ecall_does : Stand image at (instrs_of (V.System S.Ecall) at) → RunsOn may p h.regs 0 (Does (V.System S.Ecall)) (before h s)
  ecall_does w = onto 0 (Does (V.System S.Ecall)) now w 0 (omega arith) Ecall refl (λ s' on. alone (instrs_of (V.System S.Ecall) at) Ecall _ call_spares (executes_call _ refl (after_call h s') on))

  pub ebreak_does : Stand image at (instrs_of (V.System S.Ebreak) at) → RunsOn may p h.regs 0 (Does (V.System S.Ebreak)) (before h s)
  ebreak_does w = onto 0 (Does (V.System S.Ebreak)) now w 0 (omega arith) Ebreak refl (λ s' on. alone (instrs_of (V.System S.Ebreak) at) Ebreak _ break_spares (executes_break on))

  pub stop_does : Fits V.Stop at → Stand image at (instrs_of V.Stop at) → RunsOn may p h.regs 0 (Does V.Stop) (before h s)
  stop_does fits w =
      onto_jump 0 (Does V.Stop) now w 0 (omega arith) at BAD_TARGET refl (omega arith) fits (λ pc s' to on. (halts_at BAD_TARGET on to, none_written (instrs_of V.Stop at) h.regs, tt))

  module _ (x3 : h.regs 3 ≡ slot part (length pending)) where
    pub gate_does : (label : ℕ) → Stand image at (instrs_of (V.Gate label) at) → RunsOn may p h.regs 0 (Does (V.Gate label)) (before h s)
    gate_does label w =
        onto 0 (Does (V.Gate label)) now w 0 (omega arith) _ refl
        (λ s' on. (left_to (at + 4) (moved on (record { pc = h.pc + 4; regs = h.regs }) on.same) (omega arith) x3, none_written (instrs_of (V.Gate label) at) h.regs, tt))

    pub jump_does : (target : ℕ) → Fits (V.Jump target) at → Stand image at (instrs_of (V.Jump target) at) →
        RunsOn may p h.regs 0 (Does (V.Jump target)) (before h s)
    jump_does target fits w =
        onto_jump 0 (Does (V.Jump target)) now w 0 (omega arith) at target refl (omega arith) fits.1
        (λ pc s' to on. (left_to target on to x3, none_written (instrs_of (V.Jump target) at) h.regs, tt))

    pub near_does : (op : BranchOp) (rs1 rs2 target : ℕ) → Fits (V.Near op rs1 rs2 target) at →
        Stand image at (instrs_of (V.Near op rs1 rs2 target) at) → RunsOn may p h.regs 0 (Does (V.Near op rs1 rs2 target)) (before h s)
    near_does op rs1 rs2 target fits w =
        onto 0 (Does (V.Near op rs1 rs2 target)) now w 0 (omega arith) _ refl
        (λ s' on.
        elim (cases_Bool (branch_taken op (get_reg h.regs rs1) (get_reg h.regs rs2))) [
          | inl taken ↦
              rw taken (left_to target (moved on (record { pc = _; regs = h.regs }) on.same) (near_leads h.pc at target e fits.2) x3, none_written (instrs_of (V.Near op rs1 rs2 target) at) h.regs, tt)
          | inr not_taken ↦
              rw not_taken (left_to (at + 4) (moved on (record { pc = h.pc + 4; regs = h.regs }) on.same) (omega arith) x3, none_written (instrs_of (V.Near op rs1 rs2 target) at) h.regs, tt)
        ])

    pub branch_does : (op : BranchOp) (rs1 rs2 target : ℕ) → Fits (V.Branch op rs1 rs2 target) at →
        Stand image at (instrs_of (V.Branch op rs1 rs2 target) at) → RunsOn may p h.regs 1 (Does (V.Branch op rs1 rs2 target)) (before h s)
    branch_does op rs1 rs2 target fits w =
        onto_branch 1 (Does (V.Branch op rs1 rs2 target)) now w 0 (omega arith) op rs1 rs2 refl
        (λ taken pc s' to on. inl (rw taken (left_to (at + 8) on (omega arith) x3, none_written (instrs_of (V.Branch op rs1 rs2 target) at) h.regs, tt)))
        (λ not_taken pc s' to on.
        inr (onto_jump 0 (Does (V.Branch op rs1 rs2 target)) on w 1 to (at + 4) target refl (omega arith) fits.2
        (λ pc' s'' goes there. rw not_taken (left_to target there goes x3, none_written (instrs_of (V.Branch op rs1 rs2 target) at) h.regs, tt))))
