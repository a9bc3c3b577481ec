-- What a system call behind tests of its number does: the numbers are tested one after the other, and
-- the call is made where its number is one of them.
use Rattle.std.proofs.Common.{◌≡◌, ℕ, suc, ◌+◌, ◌-◌, ◌*◌, ◌==◌, ◌≤◌, inl, inr, true, false, List, [], ◌∷◌, ◌++◌, length, refl, sym, ap, subst, ◌∙◌, arith}
use Rattle.std.specs.List.{AllByRecursion}
use Rattle.std.proofs.lemmas.Bool.{cases_Bool}
use Rattle.rv_word.specs.Bits.{wrap}
use Rattle.rv_image.specs.MemoryMap.{Profile}
use Rattle.rv_word.specs.Memory.{Memory}
use Rattle.rv_word.specs.Numbers.{IsNumber, is_listed}
use Rattle.rv_instr.specs.Registers.{Registers, set_reg}
use Rattle.rv_instr.specs.declared.instr.Instr.{Instr}
use Rattle.rv_instr.specs.declared.instr.Instr.TheVariants.{Branch, Ecall, Immediate}
use Rattle.rv_instr.specs.declared.instr.ImmediateOp.TheVariants.{Addi}
use Rattle.rv_instr.specs.declared.instr.BranchOp.TheVariants.{Beq}
use Rattle.rv_code.specs.State.{Hart, Shared, After}
use Rattle.rv_code.specs.Step.{exec, offset}
use Rattle.rv_code.proofs.Calls.{after_call}
use Rattle.rv_code.proofs.Within.{within_now}
use Rattle.cfi_unit.specs.declared.unit.Unit.TheVariants as V
use Rattle.cfi_unit.specs.Guarded.{guards}
use Rattle.cfi_unit.specs.UnitWords.{BAD_TARGET, Fits, Reaches, instrs_of, jump, word_count}
use Rattle.cfi_unit.specs.Shadow.{slot}
use Rattle.cfi_unit.specs.Stand.{Stand}
use Rattle.cfi_unit.specs.Leaving.{SameScratch}
use Rattle.cfi_unit.specs.EffectLaw.{Inside, UnitIsDone}
use Rattle.cfi_unit.proofs.Context.{stand_back}
use Rattle.cfi_unit.proofs.EffectSteps.{Now, RunsOn, before, moved, onto, onto_jump, onto_put}
use Rattle.cfi_unit.proofs.EffectUnits.{executes_call, halts_at}
use Rattle.cfi_unit.proofs.GuardedUnit.{number_loaded}
use Rattle.cfi_unit.proofs.GuardedWords.{guards_counted, test_leads}

-- how many steps more than one, at most: each test has two words
cost : List ℕ → ℕ
cost [] = 1
cost (n ∷ ns) = suc (suc (cost ns))

cost_is : (ns : List ℕ) → cost ns ≡ 2 + 2 * length ns - 1
unfolding cost
cost_is [] = refl
cost_is (n ∷ ns) = let others = cost_is ns in omega arith

-- the jump and the call, from the jump's address on
abbrev last : ℕ → List Instr
last behind = jump behind BAD_TARGET ∷ Ecall ∷ []

module _ (may : Shared → Shared → Type 0) (p : Profile) (part : ℕ) (image base : Memory) (pending : List ℕ) (r : Registers) (start : Shared) (Q : After → Type 0) (x behind : ℕ) (reach : Reaches behind BAD_TARGET) where
  -- the call is made: x4 and x30 stay
  abbrev CallsNext : Registers → Type 0
  CallsNext regs =
      (h : Hart) (s : Shared) → h.pc ≡ behind + 4 → h.regs 3 ≡ regs 3 → h.regs 4 ≡ regs 4 → h.regs 30 ≡ regs 30 →
      Now may p part image base pending r start h s → Q (exec p Ecall h s)

  -- the handler is next
  abbrev HaltsNext : Registers → Type 0
  HaltsNext regs =
      (h : Hart) (s : Shared) → h.pc ≡ BAD_TARGET → h.regs 4 ≡ regs 4 → h.regs 30 ≡ regs 30 →
      Now may p part image base pending r start h s → Q (before h s)

  call_does : (n : ℕ) (ns : List ℕ) (at pc : ℕ) (regs : Registers) (s : Shared) → pc ≡ behind + 4 → behind ≡ at + 8 * length ns →
      Stand image at (guards ns ++ last behind) → Now may p part image base pending r start (record { pc = pc; regs = regs }) s →
      CallsNext regs → RunsOn may p r n Q (before (record { pc = pc; regs = regs }) s)
  call_does n ns at pc regs s e there w now calls =
      let counted = guards_counted ns in
      onto n Q now (stand_back (guards ns) (last behind) w) 1 (omega arith) Ecall refl
      (λ s' on. within_now (Inside r) may p n Q (exec p Ecall (record { pc = pc; regs = regs }) s') (calls (record { pc = pc; regs = regs }) s' e refl refl refl on))

  -- the tests of some numbers, then the jump
  tests_do : (ns : List ℕ) (at pc : ℕ) (regs : Registers) (s : Shared) → pc ≡ at → behind ≡ at + 8 * length ns → length ns ≤ 8 →
      AllByRecursion IsNumber ns → regs 17 ≡ x → Stand image at (guards ns ++ last behind) →
      Now may p part image base pending r start (record { pc = pc; regs = regs }) s →
      (is_listed x ns ≡ true → CallsNext regs) → (is_listed x ns ≡ false → HaltsNext regs) →
      RunsOn may p r (cost ns) Q (before (record { pc = pc; regs = regs }) s)
  unfolding cost
  tests_do [] at pc regs s e there few all x17 w now calls halts =
      onto_jump 1 Q now w 0 (omega arith) behind BAD_TARGET refl (omega arith) reach
      (λ pc' s' to on. inl (halts refl (record { pc = pc'; regs = regs }) s' to refl refl on))
  tests_do (n ∷ ns) at pc regs s e there few all x17 w now calls halts =
      let load : Instr = Immediate Addi 31 0 n in
      let test : Instr = Branch Beq 31 17 (4 * length (n ∷ ns)) in
      let loaded : Registers = set_reg regs 31 n in
      let behind_both = stand_back (load ∷ test ∷ []) (guards ns ++ last behind) w in
      let low = w.low in
      let high = w.high in
      onto_put (suc (suc (cost ns))) Q now w 0 (omega arith) load refl 31 _ n refl (λ s1. refl) (number_loaded n all.0)
      (λ pc1 s1 e1 now1.
      inr (onto (suc (cost ns)) Q now1 w 1 e1 test refl
      (λ s2 on.
      elim (cases_Bool (n == regs 17)) [
        | inl same ↦
            let listed : is_listed x (n ∷ ns) ≡ true = rw (ap (λ (y : ℕ). n == y) (sym x17) ∙ same) refl in
            let to = test_leads pc1 (at + 4) (length (n ∷ ns)) (omega arith) few (omega arith) in
            rw same
            (inr (call_does (cost ns) ns (at + 8) (wrap (pc1 + offset 13 (4 * length (n ∷ ns) * 2))) loaded s2 (omega arith) (omega arith) behind_both
            (moved on (record { pc = _; regs = loaded }) on.same)
            (λ h s' pc_is x3 x4 x30 now'. calls listed h s' pc_is x3 x4 x30 now')))
        | inr apart ↦
            let skips : (n == x) ≡ false = ap (λ (y : ℕ). n == y) (sym x17) ∙ apart in
            let same_test : is_listed x (n ∷ ns) ≡ is_listed x ns = rw skips refl in
            rw apart
            (inr (tests_do ns (at + 8) (pc1 + 4) loaded s2 (omega arith) (omega arith) (omega arith) all.1 x17 behind_both
            (moved on (record { pc = pc1 + 4; regs = loaded }) on.same)
            (λ listed h s' pc_is x3 x4 x30 now'. calls (same_test ∙ listed) h s' pc_is x3 x4 x30 now')
            (λ none h s' to x4 x30 now'. halts (same_test ∙ none) h s' to x4 x30 now')))
      ])))

-- the state at a unit's first word
module _ {may : Shared → Shared → Type 0} {p : Profile} {part : ℕ} {image base : Memory} {pending : List ℕ} {h : Hart} {s : Shared} (at : ℕ) (now : Now may p part image base pending h.regs s h s) (e : h.pc ≡ at) (x3 : h.regs 3 ≡ slot part (length pending)) where
  written : (n : ℕ) (ns : List ℕ) (regs : Registers) → regs 4 ≡ h.regs 4 → regs 30 ≡ h.regs 30 →
      SameScratch (instrs_of (V.Guarded (n ∷ ns)) at) h.regs regs
  written n ns regs x4 x30 = record { x4 = λ free. x4; x30 = λ free. x30; x31 = λ free. absurd (cc) }

  pub guarded_does : (ns : List ℕ) → Fits (V.Guarded ns) at → Stand image at (instrs_of (V.Guarded ns) at) →
      RunsOn may p h.regs (word_count (V.Guarded ns) - 1) (UnitIsDone p part image base may h s (V.Guarded ns) at pending) (before h s)
  guarded_does [] fits w = absurd (let some = fits.0.some in let none : length {A = ℕ} [] ≡ 0 = refl in omega arith)
  guarded_does (n ∷ ns) fits w =
      let numbers : List ℕ = n ∷ ns in
      let Q : After → Type 0 = UnitIsDone p part image base may h s (V.Guarded numbers) at pending in
      subst (λ (j : ℕ). RunsOn may p h.regs j Q (before h s)) (cost_is numbers)
      (tests_do may p part image base pending h.regs s Q (h.regs 17) (at + 8 * length numbers) fits.1 numbers at h.pc h.regs s e refl fits.0.most fits.0.each refl w now
      (λ listed h' s' pc_is x3_is x4 x30 on.
      let executes = executes_call (exec p Ecall h' s') refl (after_call h' s') on in (
        inl (listed, record { hart = h'; here = omega arith; same = on.same; pointer = x3_is ∙ x3; executes = executes }),
        written n ns _ (executes.others 4 (λ is. absurd (cc)) ∙ x4) (executes.others 30 (λ is. absurd (cc)) ∙ x30),
        tt,
      ))
      (λ none h' s' to x4 x30 on. (inr (none, halts_at BAD_TARGET on to), written n ns h'.regs x4 x30, tt)))
