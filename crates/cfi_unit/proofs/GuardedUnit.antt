-- A system call behind tests of its number: it is made where the number is listed, else the handler of
-- bad targets is next.
use Rattle.std.proofs.Common.{◌≡◌, ℕ, suc, ◌+◌, ◌-◌, ◌*◌, ◌==◌, ◌^◌, ◌<◌, inl, inr, true, false, List, length, take, refl, sym, ap, subst, ◌∙◌, arith}
use Rattle.std.specs.Prelude.{Some, slice_get}
use Rattle.std.proofs.lemmas.Bool.{cases_Bool, cases_lt}
use Rattle.std.proofs.lemmas.List.{take_all}
use Rattle.std.proofs.lemmas.Option.{slice_get_within}
use Rattle.rv_word.specs.Bits.{wrap}
use Rattle.rv_image.specs.MemoryMap.{Profile}
use Rattle.rv_word.specs.Memory.{Memory}
use Rattle.rv_word.specs.Numbers.{is_listed}
use Rattle.rv_instr.specs.Registers.{Registers}
use Rattle.rv_instr.specs.declared.instr.Instr.TheVariants.{Branch, Ecall, Immediate}
use Rattle.rv_instr.specs.declared.instr.ImmediateOp.TheVariants.{Addi}
use Rattle.rv_instr.specs.declared.instr.BranchOp.TheVariants.{Beq}
use Rattle.rv_code.specs.State.{Hart, Shared, After}
use Rattle.rv_code.specs.Step.{step, offset}
use Rattle.rv_code.proofs.Calls.{AfterCall, answered, ended, after_call}
use Rattle.cfi_unit.specs.declared.unit.Unit.TheVariants as V
use Rattle.cfi_unit.specs.UnitWords.{BAD_TARGET, Fits, instrs_of, jump}
use Rattle.cfi_unit.specs.Place.{body}
use Rattle.cfi_unit.specs.Shadow.{IsPart, slot}
use Rattle.cfi_unit.specs.Stand.{Stand}
use Rattle.cfi_unit.specs.Context.{Context, Kept}
use Rattle.cfi_unit.specs.InPlace.{InGuarded, guarded_load, guarded_test, guarded_other, guarded_call}
use Rattle.cfi_unit.specs.UnitLaw.{Outcome, stays, leaves, ends}
use Rattle.cfi_unit.proofs.Context.{at_word, kept_data}
use Rattle.cfi_unit.proofs.GuardedWords.{listed_at, test_leads, unit_call, unit_jump, unit_load, unit_test, unlisted_next}
use Rattle.cfi_unit.proofs.Jumps.{jump_leads}
use Rattle.cfi_unit.proofs.StoreUnit.{distance_is}

-- the number that is loaded is the field's
pub number_loaded : (n : ℕ) → n < 2 ^ 11 → wrap (0 + offset 12 n) ≡ n
number_loaded n small = ap (λ v. wrap (0 + v)) (distance_is n small) ∙ omega arith

module _ (p : Profile) (part : ℕ) (image base : Memory) (ns : List ℕ) (at : ℕ) (pending : List ℕ) (r : Registers) (h : Hart) (s : Shared) where
  abbrev Result : After → Type 0
  Result = Outcome p part image base (body (V.Guarded ns)) at pending r

  -- where a test fails, the next one follows, or the jump
  next_word : (k n : ℕ) → slice_get ns k ≡ Some n → (h' : Hart) → h'.pc ≡ at + 4 * (2 * k + 2) → h'.regs 3 ≡ slot part (length pending) →
      h'.regs 17 ≡ r 17 → (n == r 17) ≡ false → is_listed (r 17) (take k ns) ≡ false → InGuarded part at ns (r 17) (length pending) h'
  next_word k n is h' e x3 x17 other none =
      let below = slice_get_within ns k n is in
      let still : is_listed (r 17) (take (suc k) ns) ≡ false = unlisted_next (r 17) ns k n is other none in
      elim (cases_lt (suc k) (length ns)) [
        | inl more ↦ guarded_load (suc k) more (omega arith) x3 x17 still
        | inr last ↦
            let all : take (suc k) ns ≡ ns = take_all (suc k) ns last in
            guarded_other (omega arith) x3 (sym (ap (is_listed (r 17)) all) ∙ still)
      ]

  call_so : IsPart p part → (after : After) → AfterCall h s after → Context part image base pending s →
      h.pc ≡ at + 4 * (2 * length ns + 1) → h.regs 3 ≡ slot part (length pending) → is_listed (r 17) ns ≡ true → Result after
  call_so own after (answered t pc regs going same) c e x3 listed =
      leaves pending t (record { going = going; kept = kept_data own.low c.kept after.shared.memory (λ k high. same k (omega arith)) })
      (inl (regs 3 (omega arith) ∙ x3, tt)) (inl (listed, (refl, omega arith)))
  call_so own after (ended status t same) c e x3 listed = ends (status, t) (subst (Kept part image base pending) (sym same) c.kept)

  pub guarded_law : IsPart p part → Fits (V.Guarded ns) at → Stand image at (instrs_of (V.Guarded ns) at) →
      Context part image base pending s → InGuarded part at ns (r 17) (length pending) h → Result (step p h s)
  guarded_law own fits w c (guarded_load k below e x3 x17 none) =
      let (n, (small, (here, there))) = unit_load ns at k fits.0.each below in
      at_word Result p h c w (2 * k) (Immediate Addi 31 0 n) there e
      (stays refl c (omega arith) (guarded_test k n here (omega arith) x3 x17 none (number_loaded n small)))
  guarded_law own fits w c (guarded_test k n is e x3 x17 none x31) =
      let below = slice_get_within ns k n is in
      let most = fits.0.most in
      let low = w.low in
      let high = w.high in
      at_word Result p h c w (2 * k + 1) (Branch Beq 31 17 (4 * (length ns - k))) (unit_test ns at k below) e
      (elim (cases_Bool (h.regs 31 == h.regs 17)) [
        | inl same ↦
            let equal : (n == r 17) ≡ true = sym (ap (λ (y : ℕ). y == r 17) x31) ∙ sym (ap (λ (y : ℕ). h.regs 31 == y) x17) ∙ same in
            let to = test_leads h.pc (at + 4 * (2 * k + 1)) (length ns - k) e (omega arith) (omega arith) in
            rw same (stays refl c (omega arith) (guarded_call (omega arith) x3 x17 (listed_at (r 17) ns k n is equal)))
        | inr apart ↦
            let other : (n == r 17) ≡ false = sym (ap (λ (y : ℕ). y == r 17) x31) ∙ sym (ap (λ (y : ℕ). h.regs 31 == y) x17) ∙ apart in
            rw apart (stays refl c (omega arith) (next_word k n is (record { pc = h.pc + 4; regs = h.regs }) (omega arith) x3 x17 other none))
      ])
  guarded_law own fits w c (guarded_other e x3 none) =
      let to = jump_leads h.pc (at + 8 * length ns) BAD_TARGET (omega arith) fits.1 in
      at_word Result p h c w (2 * length ns) (jump (at + 8 * length ns) BAD_TARGET) (unit_jump ns at) e
      (leaves pending refl c (inr (omega arith)) (inr (none, (refl, to))))
  guarded_law own fits w c (guarded_call e x3 x17 listed) =
      at_word Result p h c w (2 * length ns + 1) Ecall (unit_call ns at) e (call_so own _ (after_call h s) c e x3 listed)
