-- What calls, returns and computed transfers do.
use Rattle.std.proofs.Common.{◌≡◌, ℕ, suc, ◌+◌, ◌*◌, ◌-◌, ◌==◌, ◌/◌, ◌%◌, ◌^◌, ◌<◌, ◌≤◌, not, inl, inr, true, false, List, ◌∷◌, length, bit_and, refl, sym, ap, subst, ◌∙◌, arith}
use Rattle.std.proofs.lemmas.Bool.{eqb-true, eqb-false, not-true, not-false}
use Rattle.std.proofs.lemmas.Nat.Bits.{and_high_mask}
use Rattle.rv_image.specs.MemoryMap.{Profile, CODE_START, CODE_SIZE, CODE_TAIL}
use Rattle.rv_word.specs.Memory.{Memory, read}
use Rattle.rv_instr.specs.Registers.{Registers, set_reg}
use Rattle.rv_instr.specs.declared.instr.Instr.{Instr}
use Rattle.rv_instr.specs.declared.instr.Instr.TheVariants.{Branch, Shift}
use Rattle.rv_instr.specs.declared.instr.BranchOp.TheVariants.{Beq, Bne}
use Rattle.rv_instr.specs.declared.instr.LoadOp.TheVariants.{Lw, Ld}
use Rattle.rv_instr.specs.declared.instr.ShiftOp.TheVariants.{Slli}
use Rattle.rv_instr.specs.declared.instr.StoreOp.TheVariants.{Sd}
use Rattle.rv_code.specs.Arithmetic.{difference}
use Rattle.rv_code.specs.State.{Hart, Shared, After}
use Rattle.rv_code.specs.Step.{address, offset}
use Rattle.rv_code.proofs.Frames.{read_same, read_write}
use Rattle.rv_code.proofs.Within.{onward_then, within_now, within_then}
use Rattle.cfi_unit.specs.declared.target_word.TargetWord.{TargetWord}
use Rattle.cfi_unit.specs.declared.target_word.TargetWord.TheVariants.{First}
use Rattle.cfi_unit.specs.declared.unit.Unit as U
use Rattle.cfi_unit.specs.declared.unit.Unit.TheVariants as V
use Rattle.cfi_unit.specs.UnitWords.{BAD_TARGET, BAD_RETURN, DEEP, CheckFits, Fits, MINUS_EIGHT, Reaches, check, instrs_of, jump, past, push, skip_offset}
use Rattle.cfi_unit.specs.Shadow.{slot, MOST_PENDING}
use Rattle.cfi_unit.specs.Stand.{Stand}
use Rattle.cfi_unit.specs.Context.{Context}
use Rattle.cfi_unit.specs.EffectLaw.{Inside, UnitIsDone}
use Rattle.cfi_unit.specs.Leads.{HasLabel, sum_of, destination}
use Rattle.cfi_unit.specs.Leaving.{SameRegisters, SameScratch, LeftTo, pushed}
use Rattle.cfi_unit.proofs.Context.{kept_push, kept_pending, kept_popped, stand_front, stand_back}
use Rattle.cfi_unit.proofs.Jumps.{jump_leads}
use Rattle.cfi_unit.proofs.Labels.{word_small, same_word, word_same, past_near, read_at}
use Rattle.cfi_unit.proofs.Regions.{can_load_code, can_load_part, can_store_part}
use Rattle.cfi_unit.proofs.EffectSteps.{Now, RunsOn, Runs, before, onto, onto_put, onto_branch, onto_jump, onto_load, onto_store, same_link}
use Rattle.cfi_unit.proofs.EffectUnits.{halts_at}

-- the words that test whether the shadow stack has a slot, and others behind them
abbrev room_tested : ℕ → List Instr → List Instr
room_tested at behind = Shift Slli 30 3 48 ∷ Branch Bne 30 0 skip_offset ∷ jump (at + 8) DEEP ∷ behind

module _ {may : Shared → Shared → Type 0} {p : Profile} {part : ℕ} {image base : Memory} {pending : List ℕ} {r : Registers} {start : Shared} where
  -- what is known once a site is pushed
  after_push : (site : ℕ) (h h' : Hart) (s' : Shared) → length pending < MOST_PENDING → site < 2 ^ 64 →
      Now may p part image base pending r start h s' → SameRegisters r h'.regs →
      Now may p part image base (site ∷ pending) r (pushed part (length pending) site start) h' (pushed part (length pending) site s')
  after_push site h h' s' room small on same =
      let own = on.own in
      let kept = kept_push own.low room site on.context.kept in
      record {
        harmless = on.harmless;
        own = own;
        since = on.harmless.pushes part (length pending) site start s' on.since;
        context = record {
          going = on.context.going;
          kept = kept_pending site kept (read_write 8 s'.memory (slot part (length pending)) site small);
        };
        same = same;
      }

  module _ (at : ℕ) (Q : After → Type 0) (h : Hart) (s : Shared) (now : Now may p part image base pending r start h s) (most : length pending ≤ MOST_PENDING) (e : h.pc ≡ at) (x3 : h.regs 3 ≡ slot part (length pending)) (deep : Reaches (at + 8) DEEP) where
    abbrev counter : ℕ
    counter = slot part (length pending) * 2 ^ 48 % 2 ^ 64

    abbrev counted : Registers
    counted = set_reg h.regs 30 counter

    -- where the shadow stack is full the handler is next: x4 and x31 stay
    abbrev FullDoes : Type 0
    FullDoes =
        (h' : Hart) (s' : Shared) → length pending ≡ MOST_PENDING → h'.pc ≡ DEEP → h'.regs 4 ≡ h.regs 4 → h'.regs 31 ≡ h.regs 31 →
        Now may p part image base pending r start h' s' → Q (before h' s')

    has_slot : not (counter == 0) ≡ true → length pending < MOST_PENDING
    has_slot taken = let own = now.own in let not_zero = eqb-false counter 0 (not-true _ taken) in omega arith

    no_slot : not (counter == 0) ≡ false → length pending ≡ MOST_PENDING
    no_slot not_taken = let own = now.own in let is_zero = eqb-true counter 0 (not-false _ not_taken) in omega arith

    -- the words that test whether there is a slot: where there is, what stands behind them is next
    pub room_does : (n : ℕ) (behind : List Instr) → Stand image at (room_tested at behind) →
        ((pc : ℕ) (s' : Shared) → length pending < MOST_PENDING → pc ≡ at + 12 → Now may p part image base pending r start (record { pc = pc; regs = counted }) s' →
        Runs may p r (suc n) Q (before (record { pc = pc; regs = counted }) s')) →
        FullDoes → RunsOn may p r (suc (suc n)) Q (before h s)
    room_does n behind w has_room is_full =
        let own = now.own in
        onto_put (suc (suc n)) Q now w 0 (omega arith) _ refl 30 _ counter refl (λ s1. refl) (omega arith)
        (λ pc1 s1 e1 now1. inr (onto_branch (suc n) Q now1 w 1 e1 Bne 30 0 refl
        (λ taken pc2 s2 e2 now2. has_room pc2 s2 (has_slot taken) (omega arith) now2)
        (λ not_taken pc2 s2 e2 now2.
        inr (onto_jump n Q now2 w 2 e2 (at + 8) DEEP refl (omega arith) deep
        (λ pc3 s3 to now3. within_now (Inside r) may p n Q (before (record { pc = pc3; regs = counted }) s3) (is_full _ s3 (no_slot not_taken) to refl refl now3))))))

    -- a push: x4 and x31 stay
    pub push_does : Stand image at (push at) →
        ((h' : Hart) (s' : Shared) → length pending < MOST_PENDING → h'.pc ≡ at + 28 → h'.regs 3 ≡ slot part (suc (length pending)) → h'.regs 4 ≡ h.regs 4 → h'.regs 31 ≡ h.regs 31 →
        Now may p part image base ((at + 32) ∷ pending) r (pushed part (length pending) (at + 32) start) h' s' → Q (before h' s')) →
        FullDoes → RunsOn may p r 6 Q (before h s)
    push_does w has_room is_full =
        let own = now.own in
        let low = w.low in
        let high = w.high in
        let n = length pending in
        room_does 4 _ w
        (λ pc2 s2 room e2 now2.
        let can = can_store_part p part (slot part n) 8 own (omega arith) (omega arith) in
        inr (onto_put 4 Q now2 w 3 (omega arith) _ refl 30 _ (at + 12) refl (λ s3. refl) (omega arith)
        (λ pc3 s3 e3 now3. inr (onto_put 3 Q now3 w 4 e3 _ refl 30 _ (at + 32) refl (λ s4. refl) (omega arith)
        (λ pc4 s4 e4 now4.
        let regs = set_reg (set_reg counted 30 (at + 12)) 30 (at + 32) in
        inr (onto_store 2 Q now4 w 5 e4 Sd 3 30 0 refl (slot part n) (at + 32) (omega arith) refl can
        (λ pc5 s5 e5 now5.
        inr (onto_put 1 Q (after_push (at + 32) _ (record { pc = pc5; regs = regs }) s5 room (omega arith) now5 now5.same) w 6 e5 _ refl 3 _ (slot part (suc n)) refl (λ s6. refl) (omega arith)
        (λ pc6 s6 e6 now6. inl (has_room _ s6 room (omega arith) refl refl refl now6))))))))))
        is_full

    -- the site in x1 is pushed: x4 and x31 stay
    pub saved_does : r 1 < 2 ^ 64 → Stand image at (instrs_of V.Enter at) →
        ((h' : Hart) (s' : Shared) → length pending < MOST_PENDING → h'.pc ≡ at + 20 → h'.regs 3 ≡ slot part (suc (length pending)) → h'.regs 4 ≡ h.regs 4 → h'.regs 31 ≡ h.regs 31 →
        Now may p part image base (r 1 ∷ pending) r (pushed part (length pending) (r 1) start) h' s' → Q (before h' s')) →
        FullDoes → RunsOn may p r 4 Q (before h s)
    saved_does small w has_room is_full =
        let own = now.own in
        let n = length pending in
        room_does 2 _ w
        (λ pc2 s2 room e2 now2.
        let can = can_store_part p part (slot part n) 8 own (omega arith) (omega arith) in
        inr (onto_store 2 Q now2 w 3 (omega arith) Sd 3 1 0 refl (slot part n) (r 1) (omega arith) (now2.same.same 1 refl) can
        (λ pc3 s3 e3 now3.
        inr (onto_put 1 Q (after_push (r 1) _ (record { pc = pc3; regs = counted }) s3 room small now3 now3.same) w 4 e3 _ refl 3 _ (slot part (suc n)) refl (λ s4. refl) (omega arith)
        (λ pc4 s4 e4 now4. inl (has_room _ s4 room (omega arith) refl refl refl now4))))))
        is_full

-- the low two bits cleared
cleared : (sum : ℕ) → sum < 2 ^ 64 → bit_and sum (2 ^ 64 - 2 ^ 2) ≡ sum / 4 * 4
cleared sum small = and_high_mask 64 2 (omega arith) sum small

module _ {may : Shared → Shared → Type 0} {p : Profile} {part : ℕ} {image base : Memory} {pending : List ℕ} {r : Registers} {start : Shared} where
  module _ (which : TargetWord) (at rs1 imm label : ℕ) (Q : After → Type 0) (h : Hart) (s : Shared) (now : Now may p part image base pending r start h s) (e : h.pc ≡ at) (x3 : h.regs 3 ≡ slot part (length pending)) (small : (k : ℕ) → image k < 2 ^ 8) (fits : CheckFits at rs1 imm label) (w : Stand image at (check at rs1 imm label which)) where
    -- a check: on to the transfer where the destination bears the label, else to the handler
    pub check_does :
        ((h' : Hart) (s' : Shared) → HasLabel image which label (destination h.regs rs1 imm) → h'.pc ≡ at + 48 → h'.regs 3 ≡ slot part (length pending) →
        h'.regs 31 ≡ destination h.regs rs1 imm → Now may p part image base pending r start h' s' → Q (before h' s')) →
        ((h' : Hart) (s' : Shared) → (HasLabel image which label (destination h.regs rs1 imm) → ⊥) → h'.pc ≡ BAD_TARGET →
        Now may p part image base pending r start h' s' → Q (before h' s')) →
        RunsOn may p r 11 Q (before h s)
    check_does legal illegal =
        let sum = sum_of h.regs rs1 imm in
        let v = destination h.regs rs1 imm in
        let gap = difference v CODE_START in
        let far = gap / 2 ^ 20 in
        onto_put 11 Q now w 0 (omega arith) _ refl 31 _ sum refl (λ s1. refl) refl
        (λ pc1 s1 e1 now1. inr (onto_put 10 Q now1 w 1 e1 _ refl 31 _ v refl (λ s2. refl) (cleared sum (omega arith))
        (λ pc2 s2 e2 now2. inr (onto_put 9 Q now2 w 2 e2 _ refl 30 _ CODE_START refl (λ s3. refl) refl
        (λ pc3 s3 e3 now3. inr (onto_put 8 Q now3 w 3 e3 _ refl 30 _ gap refl (λ s4. refl) refl
        (λ pc4 s4 e4 now4. inr (onto_put 7 Q now4 w 4 e4 _ refl 30 _ far refl (λ s5. refl) refl
        (λ pc5 s5 e5 now5. inr (onto_branch 6 Q now5 w 5 e5 Beq 30 0 refl
        (λ inside pc6 s6 e6 now6.
        let is_zero = eqb-true far 0 inside in
        let first : CODE_START ≤ v = omega arith in
        let last : v + 4 ≤ CODE_START + CODE_SIZE = omega arith in
        let round : v % 4 ≡ 0 = omega arith in
        let near = past_near which in
        let found = offset 32 (read 4 image (v + past which)) in
        let upper = offset 32 (label * 2 ^ 12) in
        inr (onto_load 5 Q now6 w 7 e6 Lw 30 31 (past which) refl refl (v + past which) found (read_at which v (omega arith)) (can_load_code p (v + past which) 4 (omega arith) (omega arith)) (λ s7 c. code_read (v + past which) s7 c (omega arith) (omega arith))
        (λ pc7 s7 e7 now7. inr (onto_put 4 Q now7 w 8 e7 _ refl 4 _ upper refl (λ s8. refl) refl
        (λ pc8 s8 e8 now8. inr (onto_put 3 Q now8 w 9 e8 _ refl 4 _ ((upper + 55) % 2 ^ 64) refl (λ s9. refl) refl
        (λ pc9 s9 e9 now9. inr (onto_branch 2 Q now9 w 10 e9 Beq 30 4 refl
        (λ same pc10 s10 e10 now10.
        let word = same_word (read 4 image (v + past which)) label (word_small image (v + past which) small) fits.2 (eqb-true found ((upper + 55) % 2 ^ 64) same) in
        inl (legal _ s10 (record { round = round; low = first; high = last; word = word }) e10 x3 refl now10))
        (λ other pc10 s10 e10 now10.
        let apart = eqb-false found ((upper + 55) % 2 ^ 64) other in
        inr (onto_jump 1 Q now10 w 11 e10 (at + 44) BAD_TARGET refl (omega arith) fits.4
        (λ pc11 s11 to now11. inl (illegal _ s11 (λ has. apart (word_same (read 4 image (v + past which)) label fits.2 has.word)) to now11))))))))))))
        (λ outside pc6 s6 e6 now6.
        inr (onto_jump 5 Q now6 w 6 e6 (at + 24) BAD_TARGET refl (omega arith) fits.3
        (λ pc7 s7 to now7. inl (illegal _ s7 (beyond outside) to now7))))))))))))))
      where
        code_read : (a : ℕ) (s' : Shared) → Context part image base pending s' → CODE_START ≤ a → a + 4 ≤ CODE_START + CODE_SIZE + CODE_TAIL →
            offset 32 (read 4 s'.memory a) ≡ offset 32 (read 4 image a)
        code_read a s' c first last = ap (offset 32) (read_same 4 image s'.memory a (λ k from to. c.kept.code k (omega arith) (omega arith)))

        beyond : (difference (destination h.regs rs1 imm) CODE_START / 2 ^ 20 == 0) ≡ false → HasLabel image which label (destination h.regs rs1 imm) → ⊥
        beyond outside has =
            let not_zero = eqb-false (difference (destination h.regs rs1 imm) CODE_START / 2 ^ 20) 0 outside in
            let low = has.low in
            let high = has.high in
            not_zero (omega arith)

module _ {may : Shared → Shared → Type 0} {p : Profile} {part : ℕ} {image base : Memory} {h : Hart} {s : Shared} where
  module _ (at : ℕ) (pending : List ℕ) (now : Now may p part image base pending h.regs s h s) (e : h.pc ≡ at) (x3 : h.regs 3 ≡ slot part (length pending)) (most : length pending ≤ MOST_PENDING) where
    abbrev Does : U.Unit → After → Type 0
    Does unit = UnitIsDone p part image base may h s unit at pending

    x30_written : (target : ℕ) (regs : Registers) → regs 4 ≡ h.regs 4 → regs 31 ≡ h.regs 31 → SameScratch (instrs_of (V.Call target) at) h.regs regs
    x30_written target regs x4 x31 = record { x4 = λ free. x4; x30 = λ free. absurd (cc); x31 = λ free. x31 }

    pub call_does : (target : ℕ) → Fits (V.Call target) at → Stand image at (instrs_of (V.Call target) at) →
        RunsOn may p h.regs 7 (Does (V.Call target)) (before h s)
    call_does target fits w =
        let Q : After → Type 0 = Does (V.Call target) in
        let R : After → Type 0 = Runs may p h.regs 1 Q in
        onward_then (Inside h.regs) may p 6 1 R Q (before h s)
        (push_does at R h s now most e x3 fits.0 (stand_front (push at) _ w)
        (λ h' s' room e' x3' x4 x31 now'.
        inr (onto 0 Q now' w 7 (omega arith) _ refl
        (λ s'' on. (
          inl (
            room,
            record {
              turn = refl;
              pc = jump_leads h'.pc (at + 28) target e' fits.1;
              regs = same_link h.regs h'.regs (h'.pc + 4) (at + 32) (omega arith) on.same;
              pointer = x3';
              shared = on.since;
              context = on.context;
            },
          ),
          x30_written target _ x4 x31,
          tt,
        ))))
        (λ h' s' full to x4 x31 now'. inl (inr (full, halts_at DEEP now' to), x30_written target h'.regs x4 x31, tt)))
        (λ b on. on)

    module _ (rs1 imm label : ℕ) (small : (k : ℕ) → image k < 2 ^ 8) where
      -- the jump to x31 clears its lowest bit, which is 0
      arrives : (which : TargetWord) (pc v : ℕ) (regs : Registers) → regs 31 ≡ v → HasLabel image which label v → address (record { pc = pc; regs = regs }) 31 0 / 2 * 2 ≡ v
      arrives which pc v regs is legal = let round = legal.round in let high = legal.high in omega arith

      -- a call's site, by another expression
      same_site : (to site site' : ℕ) (after : After) → site ≡ site' →
          LeftTo part image base to (site ∷ pending) (set_reg h.regs 1 site) (may (pushed part (length pending) site s)) after →
          LeftTo part image base to (site' ∷ pending) (set_reg h.regs 1 site') (may (pushed part (length pending) site' s)) after
      same_site to site site' after same left =
          subst (λ x. LeftTo part image base to (x ∷ pending) (set_reg h.regs 1 x) (may (pushed part (length pending) x s)) after) same left

      -- a check writes all three
      jump_writes : (which : TargetWord) (regs : Registers) → SameScratch (instrs_of (V.Ijump which rs1 imm label) at) h.regs regs
      jump_writes which regs = record { x4 = λ free. absurd (cc); x30 = λ free. absurd (cc); x31 = λ free. absurd (cc) }

      call_writes : (regs : Registers) → SameScratch (instrs_of (V.Icall rs1 imm label) at) h.regs regs
      call_writes regs = record { x4 = λ free. absurd (cc); x30 = λ free. absurd (cc); x31 = λ free. absurd (cc) }

      pub ijump_does : (which : TargetWord) → Fits (V.Ijump which rs1 imm label) at → Stand image at (instrs_of (V.Ijump which rs1 imm label) at) →
          RunsOn may p h.regs 12 (Does (V.Ijump which rs1 imm label)) (before h s)
      ijump_does which fits w =
          let Q : After → Type 0 = Does (V.Ijump which rs1 imm label) in
          let R : After → Type 0 = Runs may p h.regs 1 Q in
          let v = destination h.regs rs1 imm in
          onward_then (Inside h.regs) may p 11 1 R Q (before h s)
          (check_does which at rs1 imm label R h s now e x3 small fits (stand_front (check at rs1 imm label which) _ w)
          (λ h' s' legal e' x3' x31 now'.
          inr (onto 0 Q now' w 12 e' _ refl
          (λ s'' on. (
            inl (
              legal,
              record {
                turn = refl;
                pc = arrives which h'.pc v h'.regs x31 legal;
                regs = on.same;
                pointer = x3';
                shared = on.since;
                context = on.context;
              },
            ),
            jump_writes which _,
            tt,
          ))))
          (λ h' s' illegal to now'. inl (inr (illegal, halts_at BAD_TARGET now' to), jump_writes which h'.regs, tt)))
          (λ b on. on)

      pub icall_does : Fits (V.Icall rs1 imm label) at → Stand image at (instrs_of (V.Icall rs1 imm label) at) →
          RunsOn may p h.regs 19 (Does (V.Icall rs1 imm label)) (before h s)
      icall_does fits w =
          let Q : After → Type 0 = Does (V.Icall rs1 imm label) in
          let R : After → Type 0 = Runs may p h.regs 1 Q in
          let R' : After → Type 0 = Runs may p h.regs 8 Q in
          let v = destination h.regs rs1 imm in
          let deep : at + 56 ≡ at + 48 + 8 = omega arith in
          onward_then (Inside h.regs) may p 11 8 R' Q (before h s)
          (check_does First at rs1 imm label R' h s now e x3 small fits.0 (stand_front (check at rs1 imm label First) _ w)
          (λ h' s' legal e' x3' x31 now'.
          within_then (Inside h.regs) may p 7 1 R Q (before h' s')
          (inr (push_does (at + 48) R h' s' now' most e' x3' (subst (λ a. Reaches a DEEP) deep fits.1)
          (stand_front (push (at + 48)) _ (stand_back (check at rs1 imm label First) _ w))
          (λ h2 s2 room e2 x3_2 x4_2 x31_2 now2.
          inr (onto 0 Q now2 w 19 (omega arith) _ refl
          (λ s3 on. (
            inl (
              legal,
              inl (
                room,
                same_site v (at + 48 + 32) (at + 80) _ (omega arith) (record {
                  turn = refl;
                  pc = arrives First h2.pc v h2.regs (x31_2 ∙ x31) legal;
                  regs = same_link h.regs h2.regs (h2.pc + 4) (at + 48 + 32) (omega arith) on.same;
                  pointer = x3_2;
                  shared = on.since;
                  context = on.context;
                }),
              ),
            ),
            call_writes _,
            tt,
          ))))
          (λ h2 s2 full to x4_2 x31_2 now2. inl (inl (legal, inr (full, halts_at DEEP now2 to)), call_writes h2.regs, tt))))
          (λ b on. on))
          (λ h' s' illegal to now'. inl (inr (illegal, halts_at BAD_TARGET now' to), call_writes h'.regs, tt)))
          (λ b on. on)

  module _ (at site : ℕ) (pending : List ℕ) (now : Now may p part image base (site ∷ pending) h.regs s h s) (e : h.pc ≡ at) (x3 : h.regs 3 ≡ slot part (suc (length pending))) (most : suc (length pending) ≤ MOST_PENDING) (even : site % 2 ≡ 0) (small : site < 2 ^ 64) where
    pub return_does : Fits V.Return at → Stand image at (instrs_of V.Return at) →
        RunsOn may p h.regs 4 (UnitIsDone p part image base may h s V.Return at (site ∷ pending)) (before h s)
    return_does fits w =
        let Q : After → Type 0 = UnitIsDone p part image base may h s V.Return at (site ∷ pending) in
        let own = now.own in
        let n = length pending in
        let can = can_load_part p part (slot part n) 8 own (omega arith) (omega arith) in
        onto_load 4 Q now w 0 (omega arith) Ld 31 3 MINUS_EIGHT refl refl (slot part n) site (omega arith) can (λ s' c. c.kept.held.0)
        (λ pc1 s1 e1 now1. inr (onto_put 3 Q now1 w 1 e1 _ refl 3 _ (slot part n) refl (λ s2. refl) (omega arith)
        (λ pc2 s2 e2 now2. inr (onto_branch 2 Q now2 w 2 e2 Beq 31 1 refl
        (λ same pc3 s3 e3 now3.
        let equal = eqb-true site (h.regs 1) same in
        inr (onto 1 Q now3 w 4 e3 _ refl
        (λ s4 on. inl (
          inl (
            sym equal,
            record {
              turn = refl;
              pc = omega arith;
              regs = on.same;
              pointer = refl;
              shared = on.since;
              context = record { going = on.context.going; kept = kept_popped site on.context.kept };
            },
          ),
          record { x4 = λ free. refl; x30 = λ free. refl; x31 = λ free. absurd (cc) },
          tt,
        ))))
        (λ other pc3 s3 e3 now3.
        let apart = eqb-false site (h.regs 1) other in
        inr (onto_jump 1 Q now3 w 3 e3 (at + 12) BAD_RETURN refl (omega arith) fits
        (λ pc4 s4 to now4. inl (
          inr (λ is. apart (sym is), halts_at BAD_RETURN now4 to),
          record { x4 = λ free. refl; x30 = λ free. refl; x31 = λ free. absurd (cc) },
          tt,
        ))))))))
