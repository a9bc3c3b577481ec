-- What stores behind one mask do: the address is masked, and then each member stores, whatever may
-- happen before it.
use Rattle.std.proofs.Common.{◌≡◌, ℕ, zero, suc, ◌+◌, ◌*◌, ◌-◌, ◌==◌, ◌%◌, ◌^◌, ◌<◌, inl, inr, List, [], ◌∷◌, length, map, bit_and, false, refl, ap, subst, ◌∙◌, arith}
use Rattle.std.specs.List.{AllByRecursion}
use Rattle.std.proofs.lemmas.Bool.{cases_Bool}
use Rattle.std.proofs.lemmas.Nat.{and_mask}
use Rattle.rv_image.specs.MemoryMap.{Profile}
use Rattle.rv_word.specs.Memory.{Memory, write}
use Rattle.rv_instr.specs.Registers.{Registers, get_reg, set_reg}
use Rattle.rv_code.specs.Arithmetic.{store_size}
use Rattle.rv_code.specs.State.{Hart, Shared, After}
use Rattle.rv_code.proofs.Frames.{write_outside}
use Rattle.cfi_unit.specs.declared.members.Member.{Member}
use Rattle.cfi_unit.specs.declared.unit.Unit.TheVariants as V
use Rattle.cfi_unit.specs.Members.{IsMember, member_instr}
use Rattle.cfi_unit.specs.declared.mask.Mask.{Mask}
use Rattle.cfi_unit.specs.declared.mask.Mask.TheVariants.{Shifts, Short, Long}
use Rattle.cfi_unit.specs.UnitWords.{Fits, MaskFits, STORE_MASK, after_unit, instrs_of, mask_instrs, word_count}
use Rattle.cfi_unit.specs.Shadow.{IsPart, slot}
use Rattle.cfi_unit.specs.Stand.{Stand}
use Rattle.cfi_unit.specs.Context.{Context}
use Rattle.cfi_unit.specs.Leads.{sum_of}
use Rattle.cfi_unit.specs.Leaving.{StoresEach, masked, stored_at, with_memory, write_register}
use Rattle.cfi_unit.specs.Templates.{MaskAsks}
use Rattle.cfi_unit.specs.EffectLaw.{UnitIsDone}
use Rattle.cfi_unit.proofs.Context.{kept_data, stand_back}
use Rattle.cfi_unit.proofs.Regions.{store_size-small, can_store_near}
use Rattle.cfi_unit.proofs.StoreUnit.{member_address}
use Rattle.cfi_unit.proofs.EffectSteps.{Now, RunsOn, before, onto_put, onto_store}

module _ {p : Profile} {part : ℕ} {image base : Memory} {pending : List ℕ} where
  -- data alone is written
  stored_context : (m : Member) (a : ℕ) (regs : Registers) (s : Shared) → IsPart p part → a < 2 ^ 28 → m.distance < 2 ^ 11 →
      Context part image base pending s → Context part image base pending (stored_at a regs m s)
  stored_context m a regs s own near low c =
      let few = store_size-small m.op in
      record {
        going = c.going;
        kept = kept_data own.low c.kept _ (λ k high. write_outside (store_size m.op) s.memory (a + m.distance) (get_reg regs m.value) k (inr (omega arith)));
      }

module _ {may : Shared → Shared → Type 0} {p : Profile} {part : ℕ} {image base : Memory} {pending : List ℕ} {r : Registers} where
  -- after a store what is shared then is where the next word begins
  stored_now : {start : Shared} {h : Hart} {s : Shared} (m : Member) (a : ℕ) (regs : Registers) → a < 2 ^ 28 → m.distance < 2 ^ 11 →
      Now may p part image base pending r start h s → Now may p part image base pending r (stored_at a regs m s) h (stored_at a regs m s)
  stored_now {s = s} m a regs near low now = record {
    harmless = now.harmless;
    own = now.own;
    since = now.harmless.self (stored_at a regs m s);
    context = stored_context m a regs s now.own near low now.context;
    same = now.same;
  }

  -- the members store one after the other, each on what is shared then
  each_does : (m : Member) (ms : List Member) (a : ℕ) → a < 2 ^ 28 → AllByRecursion IsMember (m ∷ ms) →
      (regs : Registers) → regs 31 ≡ a → (at pc : ℕ) → pc ≡ at → Stand image at (map member_instr (m ∷ ms)) →
      (Q : After → Type 0) (start s : Shared) → Now may p part image base pending r start (record { pc = pc; regs = regs }) s →
      ((pc' : ℕ) (s' : Shared) → pc' ≡ at + 4 * length (m ∷ ms) → StoresEach may a regs (m ∷ ms) start s' →
      Now may p part image base pending r s' (record { pc = pc'; regs = regs }) s' →
      Q (before (record { pc = pc'; regs = regs }) s')) →
      RunsOn may p r (length ms) Q (before (record { pc = pc; regs = regs }) s)
  each_does m [] a near all regs x31 at pc e w Q start s now next =
      onto_store 0 Q now w 0 (omega arith) m.op 31 m.value m.distance refl (a + m.distance) (get_reg regs m.value)
      (member_address (regs 31) a m.distance x31 near all.0.1) refl
      (can_store_near p (a + m.distance) (store_size m.op) (let low = all.0.1 in omega arith) (store_size-small m.op))
      (λ pc' s' e' now'.
      next pc' (stored_at a regs m s') (omega arith) (s', now'.since, refl) (stored_now m a regs near all.0.1 now'))
  each_does m (m' ∷ ms) a near all regs x31 at pc e w Q start s now next =
      onto_store (suc (length ms)) Q now w 0 (omega arith) m.op 31 m.value m.distance refl (a + m.distance) (get_reg regs m.value)
      (member_address (regs 31) a m.distance x31 near all.0.1) refl
      (can_store_near p (a + m.distance) (store_size m.op) (let low = all.0.1 in omega arith) (store_size-small m.op))
      (λ pc' s' e' now'.
      inr (each_does m' ms a near all.1 regs x31 (at + 4) pc' (omega arith)
      (stand_back (member_instr m ∷ []) (map member_instr (m' ∷ ms)) w) Q (stored_at a regs m s') (stored_at a regs m s')
      (stored_now m a regs near all.0.1 now')
      (λ pc'' s'' e'' each now''. next pc'' s'' (omega arith) (s', now'.since, each) now'')))

-- x31 written twice or thrice holds what was written last
twice : (r : Registers) (u v k : ℕ) → set_reg (set_reg r 31 u) 31 v k ≡ set_reg r 31 v k
twice r u v k = elim (cases_Bool (k == 31)) [ inl here ↦ rw here refl | inr other ↦ rw other refl ]

thrice : (r : Registers) (u v w k : ℕ) → set_reg (set_reg (set_reg r 31 u) 31 v) 31 w k ≡ set_reg r 31 w k
thrice r u v w k = elim (cases_Bool (k == 31)) [ inl here ↦ rw here refl | inr other ↦ rw other refl ]

-- so members store the same from both
get_same : (regs regs' : Registers) (k : ℕ) → ((j : ℕ) → regs j ≡ regs' j) → get_reg regs k ≡ get_reg regs' k
get_same regs regs' zero same = refl
get_same regs regs' (suc k) same = same (suc k)

each_same : (may : Shared → Shared → Type 0) (a : ℕ) (regs regs' : Registers) (ms : List Member) (s s' : Shared) → ((j : ℕ) → regs j ≡ regs' j) →
    StoresEach may a regs ms s s' → StoresEach may a regs' ms s s'
each_same may a regs regs' [] s s' same each = each
each_same may a regs regs' (m ∷ ms) s s' same each =
    let (seen, t, others) = each in
    let stored : stored_at a regs m seen ≡ stored_at a regs' m seen =
    ap (λ v. with_memory seen (write (store_size m.op) seen.memory (a + m.distance) v)) (get_same regs regs' m.value same) in
    (seen, t, subst (λ (x : Shared). StoresEach may a regs' ms x s') stored (each_same may a regs regs' ms (stored_at a regs m seen) s' same others))

-- the mask of stores keeps the low 28 bits
kept_bits : (x v : ℕ) → v ≡ STORE_MASK → bit_and x v ≡ x % 2 ^ 28
kept_bits x v is = ap (bit_and x) is ∙ and_mask x 28

-- a register alone is the sum with no offset
sum_alone : (r : Registers) (rs1 imm : ℕ) → imm ≡ 0 → get_reg r rs1 % 2 ^ 28 ≡ masked r rs1 imm
sum_alone r rs1 imm none = rw none (omega arith)

-- a mask's words and as many more, written out
abbrev behind : Mask → ℕ → ℕ
behind Shifts n = suc (suc (suc n))
behind Short n = suc n
behind Long n = suc (suc n)

-- the state at a unit's first word
module _ {may : Shared → Shared → Type 0} {p : Profile} {part : ℕ} {image base : Memory} {pending : List ℕ} {h : Hart} {s : Shared} (at : ℕ) (now : Now may p part image base pending h.regs s h s) (e : h.pc ≡ at) (x3 : h.regs 3 ≡ slot part (length pending)) where
  abbrev Done : Mask → ℕ → ℕ → Member → List Member → After → Type 0
  Done mask rs1 imm m ms = UnitIsDone p part image base may h s (V.Stores mask rs1 imm (m ∷ ms)) at pending

  module _ (mask : Mask) (rs1 imm : ℕ) (m : Member) (ms : List Member) (all : AllByRecursion IsMember (m ∷ ms)) (w : Stand image at (instrs_of (V.Stores mask rs1 imm (m ∷ ms)) at)) where
    abbrev near : ℕ
    near = masked h.regs rs1 imm

    -- the members behind the mask: of the registers it has written x31 alone
    masked_does : (pc : ℕ) (regs : Registers) (s' : Shared) → pc ≡ at + 4 * length (mask_instrs mask rs1 imm) → regs 31 ≡ near → regs 3 ≡ h.regs 3 →
        ((j : ℕ) → regs j ≡ set_reg h.regs 31 near j) → Now may p part image base pending h.regs s (record { pc = pc; regs = regs }) s' →
        RunsOn may p h.regs (length ms) (Done mask rs1 imm m ms) (before (record { pc = pc; regs = regs }) s')
    masked_does pc regs s' here x31 pointer same now' =
        each_does m ms near (omega arith) all regs x31 (at + 4 * length (mask_instrs mask rs1 imm)) pc here
        (stand_back (mask_instrs mask rs1 imm) (map member_instr (m ∷ ms)) w) (Done mask rs1 imm m ms) s s' now'
        (λ pc4 s4 e4 each now4. (
          record {
            turn = refl;
            pc = past_mask mask pc4 e4;
            regs = now4.same;
            pointer = pointer ∙ x3;
            shared = each_same may near regs (set_reg h.regs 31 near) (m ∷ ms) s s4 same each;
            context = now4.context;
          },
          record { x4 = λ free. same 4; x30 = λ free. same 30; x31 = written mask },
          tt,
        ))
      where
        past_mask : (mask : Mask) (pc : ℕ) → pc ≡ at + 4 * length (mask_instrs mask rs1 imm) + 4 * length (m ∷ ms) →
            pc ≡ after_unit (V.Stores mask rs1 imm (m ∷ ms)) at
        past_mask Shifts pc e = omega arith
        past_mask Short pc e = omega arith
        past_mask Long pc e = omega arith

        written : (mask : Mask) → write_register (instrs_of (V.Stores mask rs1 imm (m ∷ ms)) at) 31 ≡ false → regs 31 ≡ h.regs 31
        written Shifts free = absurd (cc)
        written Short free = absurd (cc)
        written Long free = absurd (cc)

  some_does : (mask : Mask) (rs1 imm : ℕ) (m : Member) (ms : List Member) → AllByRecursion IsMember (m ∷ ms) → MaskFits mask imm → MaskAsks mask h.regs →
      Stand image at (instrs_of (V.Stores mask rs1 imm (m ∷ ms)) at) →
      RunsOn may p h.regs (behind mask (length ms)) (Done mask rs1 imm m ms) (before h s)
  some_does Shifts rs1 imm m ms all fits asks w =
      let sum = sum_of h.regs rs1 imm in
      let shifted = sum * 2 ^ 36 % 2 ^ 64 in
      let a = masked h.regs rs1 imm in
      let Q = Done Shifts rs1 imm m ms in
      onto_put (suc (suc (suc (length ms)))) Q now w 0 (omega arith) _ refl 31 _ sum refl (λ s1. refl) refl
      (λ pc1 s1 e1 now1. inr (onto_put (suc (suc (length ms))) Q now1 w 1 e1 _ refl 31 _ shifted refl (λ s2. refl) refl
      (λ pc2 s2 e2 now2. inr (onto_put (suc (length ms)) Q now2 w 2 e2 _ refl 31 _ a refl (λ s3. refl) (omega arith)
      (λ pc3 s3 e3 now3. inr (masked_does Shifts rs1 imm m ms all w pc3 _ s3 e3 refl refl (thrice h.regs sum shifted a) now3))))))
  some_does Short rs1 imm m ms all fits asks w =
      let a = masked h.regs rs1 imm in
      let Q = Done Short rs1 imm m ms in
      onto_put (suc (length ms)) Q now w 0 (omega arith) _ refl 31 _ a refl (λ s1. refl)
      (kept_bits (get_reg h.regs rs1) (h.regs 4) asks ∙ sum_alone h.regs rs1 imm fits)
      (λ pc1 s1 e1 now1. inr (masked_does Short rs1 imm m ms all w pc1 _ s1 e1 refl refl (λ j. refl) now1))
  some_does Long rs1 imm m ms all fits asks w =
      let sum = sum_of h.regs rs1 imm in
      let a = masked h.regs rs1 imm in
      let Q = Done Long rs1 imm m ms in
      onto_put (suc (suc (length ms))) Q now w 0 (omega arith) _ refl 31 _ sum refl (λ s1. refl) refl
      (λ pc1 s1 e1 now1. inr (onto_put (suc (length ms)) Q now1 w 1 e1 _ refl 31 _ a refl (λ s2. refl) (kept_bits sum (h.regs 4) asks)
      (λ pc2 s2 e2 now2. inr (masked_does Long rs1 imm m ms all w pc2 _ s2 e2 refl refl (twice h.regs sum a) now2))))

  pub stores_does : (mask : Mask) (rs1 imm : ℕ) (members : List Member) → Fits (V.Stores mask rs1 imm members) at → MaskAsks mask h.regs →
      Stand image at (instrs_of (V.Stores mask rs1 imm members) at) →
      RunsOn may p h.regs (word_count (V.Stores mask rs1 imm members) - 1) (UnitIsDone p part image base may h s (V.Stores mask rs1 imm members) at pending) (before h s)
  stores_does mask rs1 imm [] fits asks w = absurd (let some = fits.2.some in let none : length {A = Member} [] ≡ 0 = refl in omega arith)
  stores_does mask rs1 imm (m ∷ ms) fits asks w =
      subst (λ (n : ℕ). RunsOn may p h.regs n (Done mask rs1 imm m ms) (before h s)) (counted mask)
      (some_does mask rs1 imm m ms fits.2.each fits.3 asks w)
    where
      counted : (mask : Mask) → behind mask (length ms) ≡ word_count (V.Stores mask rs1 imm (m ∷ ms)) - 1
      counted Shifts = omega arith
      counted Short = omega arith
      counted Long = omega arith
