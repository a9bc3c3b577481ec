-- What the opening and the closing do.
use Rattle.std.proofs.Common.{◌≡◌, ℕ, suc, ◌+◌, ◌-◌, ◌*◌, ◌^◌, ◌<◌, ◌≤◌, inl, inr, List, [], ◌∷◌, length, replicate, Some, refl, sym, subst, ◌∙◌, arith}
use Rattle.std.specs.Prelude.{slice_get}
use Rattle.rv_word.specs.Bits.{wrap}
use Rattle.rv_image.specs.MemoryMap.{IsFullProfile, Profile, SHADOW_START, part_of, version_1, version_2}
use Rattle.rv_word.specs.Memory.{Memory}
use Rattle.rv_instr.specs.Registers.{Registers, set_reg}
use Rattle.rv_instr.specs.declared.instr.Instr.{Instr}
use Rattle.rv_code.specs.Arithmetic.{difference}
use Rattle.rv_code.proofs.Within.{Onward, Within, comes_on_calmly, comes_on, within_map}
use Rattle.rv_code.specs.State.{Hart, Shared, After}
use Rattle.rv_code.specs.Step.{exec, step}
use Rattle.cfi_unit.specs.declared.unit.Unit.TheVariants as V
use Rattle.cfi_unit.specs.UnitWords.{instrs_of}
use Rattle.cfi_unit.specs.Prologue.{OPENING, call_at, opening_instrs, set_up}
use Rattle.cfi_unit.specs.Shadow.{IsPart, slot}
use Rattle.cfi_unit.specs.Stand.{Stand}
use Rattle.cfi_unit.specs.Context.{Context}
use Rattle.cfi_unit.specs.Between.{Unchanged, DataChanged}
use Rattle.cfi_unit.specs.Leaving.{LeftTo, SameRegisters, SameScratch, pushed}
use Rattle.cfi_unit.specs.EffectLaw.{DoneWithin, GoesOn, Inside, UnitIsDone}
use Rattle.cfi_unit.specs.PrologueEffect.{stack_of, OpeningDoes, OpeningIsDone, ClosingDoes, EntersOpening, EntersClosing, OpeningEffect, OpeningKeepsRegisters, ClosingEffect, ClosingKeepsRegisters}
use Rattle.cfi_unit.proofs.Parts.{call_site, opening_parts, own_is_part, set_up_length}
use Rattle.cfi_unit.proofs.Context.{at_word, stand_back}
use Rattle.cfi_unit.proofs.EffectSteps.{IsHarmless, Now, before, same_again, same_link, same_set}
use Rattle.cfi_unit.proofs.EffectTransfers.{call_does}
use Rattle.cfi_unit.proofs.EffectRows.{done_within, unchanged_harmless, changed_harmless, data_allowed}

pub same_trans : (r regs last : Registers) → SameRegisters r regs → SameRegisters regs last → SameRegisters r last
same_trans r regs last one two = record { same = λ k free. two.same k free ∙ one.same k free }

-- the registers where the opening's call begins: both stacks are set up, and what the call does not write
-- of the scratch registers, the opening does not
record Ready (p : Profile) (entry hart : ℕ) (r regs : Registers) : Type 0 where
  same : SameRegisters (set_reg r 2 (stack_of hart)) regs
  pointer : regs 3 ≡ slot (part_of hart) 0
  scratch : (last : Registers) → SameScratch (instrs_of (V.Call entry) (call_at p)) regs last → SameScratch (opening_instrs p entry) r last

-- of a lone hart
module _ (r : Registers) where
  abbrev lone_regs : Registers
  lone_regs = set_reg (set_reg (set_reg r 2 (2 ^ 28)) 3 SHADOW_START) 3 (SHADOW_START + 8)

  same_lone : SameRegisters (set_reg r 2 (2 ^ 28)) lone_regs
  same_lone =
      same_set (set_reg r 2 (2 ^ 28)) (set_reg (set_reg r 2 (2 ^ 28)) 3 SHADOW_START) 3 (SHADOW_START + 8) refl
      (same_set (set_reg r 2 (2 ^ 28)) (set_reg r 2 (2 ^ 28)) 3 SHADOW_START refl (record { same = λ k free. refl }))

  lone_ready : (entry hart : ℕ) → hart < 1 → Ready version_1 entry hart r lone_regs
  lone_ready entry hart below = record {
    same =
        let end : 2 ^ 28 ≡ stack_of hart = omega arith in
        subst (λ (v : ℕ). SameRegisters (set_reg r 2 v) lone_regs) end same_lone;
    pointer = omega arith;
    scratch = λ last kept. record { x4 = λ free. kept.x4 refl; x30 = λ free. absurd (cc); x31 = λ free. kept.x31 refl };
  }

-- of one of several
module _ (r : Registers) where
  abbrev below_stack : Registers
  below_stack = set_reg (set_reg r 2 (2 ^ 28)) 31 (wrap (r 10 * 2 ^ 20))

  abbrev own_stack_regs : Registers
  own_stack_regs = set_reg below_stack 2 (difference (2 ^ 28) (wrap (r 10 * 2 ^ 20)))

  abbrev at_shadow : Registers
  at_shadow = set_reg (set_reg own_stack_regs 3 SHADOW_START) 31 (wrap (r 10 * 2 ^ 16))

  abbrev at_part : Registers
  at_part = set_reg at_shadow 3 (wrap (SHADOW_START + wrap (r 10 * 2 ^ 16)))

  abbrev own_regs : Registers
  own_regs = set_reg at_part 3 (wrap (wrap (SHADOW_START + wrap (r 10 * 2 ^ 16)) + 8))

  same_own : (v : ℕ) → difference (2 ^ 28) (wrap (r 10 * 2 ^ 20)) ≡ v → SameRegisters (set_reg r 2 v) own_regs
  same_own v end =
      same_set (set_reg r 2 v) at_part 3 _ refl
      (same_set (set_reg r 2 v) at_shadow 3 _ refl
      (same_set (set_reg r 2 v) (set_reg own_stack_regs 3 SHADOW_START) 31 _ refl
      (same_set (set_reg r 2 v) own_stack_regs 3 _ refl
      (same_again r below_stack 2 (2 ^ 28) _ v end
      (same_set (set_reg r 2 (2 ^ 28)) (set_reg r 2 (2 ^ 28)) 31 _ refl (record { same = λ k free. refl }))))))

  own_ready : (entry hart : ℕ) → hart < 8 → r 10 ≡ hart → Ready version_2 entry hart r own_regs
  own_ready entry hart below number = record {
    same = same_own (stack_of hart) (omega arith);
    pointer = omega arith;
    scratch = λ last kept. record { x4 = λ free. kept.x4 refl; x30 = λ free. absurd (cc); x31 = λ free. absurd (cc) };
  }

module _ (may : Shared → Shared → Type 0) (harmless : IsHarmless may) (p : Profile) (image base : Memory) where
  -- what may happen between two words
  later : (part : ℕ) (pending : List ℕ) (start s s' : Shared) → IsPart p part → may start s → may s s' → Context part image base pending start →
      may start s' × Context part image base pending s'
  later part pending start s s' own since t c =
      let t' = harmless.further start s s' since t in (t', harmless.keeps part image base pending start s' (own.low) c t')

  module _ (entry hart : ℕ) (h : Hart) (s : Shared) (i : EntersOpening p image base entry hart h s) where
    abbrev Does : After → Type 0
    Does = OpeningIsDone p image base may entry hart h s

    own : IsPart p (part_of hart)
    own = own_is_part p (inl i.is) hart i.below

    -- a word of the opening
    opens : (n k : ℕ) (instr : Instr) (h' : Hart) (s' : Shared) → may s s' → slice_get (opening_instrs p entry) k ≡ Some instr →
        h'.pc ≡ OPENING + 4 * k → ((s'' : Shared) → may s s'' → Within GoesOn may p n Does (exec p instr h' s'')) →
        Onward GoesOn may p n Does (before h' s')
    opens n k instr h' s' since is e next = (
      refl,
      λ s'' t.
          let on = later (part_of hart) [] s s' s'' own since t i.context in
          at_word (Within GoesOn may p n Does) p h' on.1 i.stands k instr is e (next s'' on.0),
    )

    module _ (regs : Registers) (ready : Ready p entry hart h.regs regs) (pc : ℕ) (s' : Shared) (since : may s s') where
      from_call : (after : After) →
          UnitIsDone p (part_of hart) image base may (record { pc = pc; regs = regs }) s' (V.Call entry) (call_at p) [] after → Does after
      from_call after (inl (room, left), scratch, made) = (
        subst
            (λ (site : ℕ). LeftTo (part_of hart) image base entry (site ∷ []) (set_reg (set_reg h.regs 2 (stack_of hart)) 1 site) (may (pushed (part_of hart) 0 site s)) after)
            (call_site p i.is).0
            (record {
              turn = left.turn;
              pc = left.pc;
              regs =
                  same_trans _ (set_reg regs 1 (call_at p + 32)) _
                  (same_link (set_reg h.regs 2 (stack_of hart)) regs (call_at p + 32) (call_at p + 32) refl ready.same) left.regs;
              pointer = left.pointer;
              shared = harmless.further _ _ _ (harmless.pushes (part_of hart) 0 (call_at p + 32) s s' since) left.shared;
              context = left.context;
            }),
        ready.scratch after.hart.regs scratch,
      )
      from_call after (inr (full, halts), scratch, made) = absurd (omega arith)

      called : pc ≡ call_at p → Within GoesOn may p 8 Does (before (record { pc = pc; regs = regs }) s')
      called e =
          let h' : Hart = record { pc = pc; regs = regs } in
          let context = harmless.keeps (part_of hart) image base [] s s' own.low i.context since in
          let now : Now may p (part_of hart) image base [] regs s' h' s' = record {
            harmless = harmless;
            own = own;
            since = harmless.self s';
            context = context;
            same = record { same = λ k free. refl };
          } in
          within_map (Inside regs) may p GoesOn may 8 (UnitIsDone p (part_of hart) image base may h' s' (V.Call entry) (call_at p) []) Does
          (before h' s') (λ b here. here.turn) (λ a b t. t) from_call
          (inr (call_does (call_at p) [] now e ready.pointer (omega arith) entry i.fits
          (subst (λ (at : ℕ). Stand image at (instrs_of (V.Call entry) (call_at p))) (set_up_length p i.is) (stand_back (set_up p) _ (subst (λ (is : List Instr). Stand image OPENING is) (opening_parts p i.is entry) i.stands)))))

  pub closing_does : (part : ℕ) (at : ℕ) (pending : List ℕ) (h : Hart) (s : Shared) → EntersClosing p part image base at pending h s →
      Onward GoesOn may p 1 (ClosingDoes p may h s) (before h s)
  closing_does part at pending h s i =
      let own = i.own in
      let e = i.pc in
      let Q : After → Type 0 = ClosingDoes p may h s in (
        refl,
        λ s1 t1.
            let k1 = later part pending s s s1 own (harmless.self s) t1 i.context in
            at_word (Within GoesOn may p 1 Q) p h k1.1 i.stands 0 _ refl (omega arith)
            (inr (
              refl,
              λ s2 t2.
                  let k2 = later part pending s s1 s2 own k1.0 t2 i.context in
                  at_word Q p _ k2.1 i.stands 1 _ refl (omega arith) (record { seen = s2; may_see = k2.0; executed = refl }),
            )),
      )

module _ (may : Shared → Shared → Type 0) (harmless : IsHarmless may) (image base : Memory) (entry hart : ℕ) (h : Hart) (s : Shared) where
  lone_done : (i : EntersOpening version_1 image base entry hart h s) →
      Onward GoesOn may version_1 10 (OpeningIsDone version_1 image base may entry hart h s) (before h s)
  lone_done i =
      let e = i.pc in
      let ready = lone_ready h.regs entry hart i.below in
      opens may harmless version_1 image base entry hart h s i 10 0 _ h s (harmless.self s) refl (omega arith)
      (λ s1 t1. inr (opens may harmless version_1 image base entry hart h s i 9 1 _ _ s1 t1 refl (omega arith)
      (λ s2 t2. inr (opens may harmless version_1 image base entry hart h s i 8 2 _ _ s2 t2 refl (omega arith)
      (λ s3 t3. called may harmless version_1 image base entry hart h s i (lone_regs h.regs) ready (h.pc + 4 + 4 + 4) s3 t3 (omega arith))))))

  own_done : (i : EntersOpening version_2 image base entry hart h s) →
      Onward GoesOn may version_2 14 (OpeningIsDone version_2 image base may entry hart h s) (before h s)
  own_done i =
      let e = i.pc in
      let ready = own_ready h.regs entry hart i.below i.number in
      opens may harmless version_2 image base entry hart h s i 14 0 _ h s (harmless.self s) refl (omega arith)
      (λ s1 t1. inr (opens may harmless version_2 image base entry hart h s i 13 1 _ _ s1 t1 refl (omega arith)
      (λ s2 t2. inr (opens may harmless version_2 image base entry hart h s i 12 2 _ _ s2 t2 refl (omega arith)
      (λ s3 t3. inr (opens may harmless version_2 image base entry hart h s i 11 3 _ _ s3 t3 refl (omega arith)
      (λ s4 t4. inr (opens may harmless version_2 image base entry hart h s i 10 4 _ _ s4 t4 refl (omega arith)
      (λ s5 t5. inr (opens may harmless version_2 image base entry hart h s i 9 5 _ _ s5 t5 refl (omega arith)
      (λ s6 t6. inr (opens may harmless version_2 image base entry hart h s i 8 6 _ _ s6 t6 refl (omega arith)
      (λ s7 t7.
      called may harmless version_2 image base entry hart h s i (own_regs h.regs) ready (h.pc + 4 + 4 + 4 + 4 + 4 + 4 + 4) s7 t7 (omega arith))))))))))))))

  -- the opening's words after its first
  abbrev more : Profile → ℕ
  more p = length (opening_instrs p entry) - 1

  pub opening_done : (p : Profile) → EntersOpening p image base entry hart h s →
      Onward GoesOn may p (more p) (OpeningIsDone p image base may entry hart h s) (before h s)
  opening_done p i = elim i.is [
    | inl e ↦
        subst
        (λ (x : Profile). EntersOpening x image base entry hart h s → Onward GoesOn may x (more x) (OpeningIsDone x image base may entry hart h s) (before h s))
        (sym e) lone_done i
    | inr e ↦
        subst
        (λ (x : Profile). EntersOpening x image base entry hart h s → Onward GoesOn may x (more x) (OpeningIsDone x image base may entry hart h s) (before h s))
        (sym e) own_done i
  ]

  -- for runs that go on after it
  pub opening_does : (p : Profile) → EntersOpening p image base entry hart h s →
      Onward GoesOn may p (more p) (OpeningDoes p image base may entry hart h s) (before h s)
  opening_does p i =
      let on = opening_done p i in (
        on.0,
        λ s' t. within_map GoesOn may p GoesOn may (more p) (OpeningIsDone p image base may entry hart h s) (OpeningDoes p image base may entry hart h s) (step p h s')
            (λ b here. here) (λ a b t'. t') (λ b q. q.0) (on.1 s' t),
      )

-- the opening has a word
one_word : (p : Profile) → IsFullProfile p → (entry : ℕ) → suc (length (opening_instrs p entry) - 1) ≡ length (opening_instrs p entry)
one_word p (inl e) entry =
    subst (λ (x : Profile). suc (length (opening_instrs x entry) - 1) ≡ length (opening_instrs x entry)) (sym e) refl
one_word p (inr e) entry =
    subst (λ (x : Profile). suc (length (opening_instrs x entry) - 1) ≡ length (opening_instrs x entry)) (sym e) refl

pub opening_effect : OpeningEffect
opening_effect p image base entry hart h s i =
    let m = length (opening_instrs p entry) - 1 in
    let Q : After → Type 0 = OpeningIsDone p image base Unchanged entry hart h s in
    subst (λ (n : ℕ). DoneWithin p n h s (replicate n []) GoesOn Q) (one_word p i.is entry)
    (done_within p (suc m) h s (replicate (suc m) []) GoesOn Q
    (comes_on_calmly GoesOn Unchanged p (λ a t. t) Q m (before h s) (λ s'. refl)
    (opening_done Unchanged unchanged_harmless image base entry hart h s p i)))

pub opening_keeps_registers : OpeningKeepsRegisters
opening_keeps_registers p image base entry hart h s i changes all long =
    let m = length (opening_instrs p entry) - 1 in
    let Q : After → Type 0 = OpeningIsDone p image base DataChanged entry hart h s in
    subst (λ (n : ℕ). n ≤ length changes → DoneWithin p n h s changes GoesOn Q) (one_word p i.is entry)
    (λ whole. done_within p (suc m) h s changes GoesOn Q
    (comes_on GoesOn DataChanged p (λ a t. t) Q m (before h s) changes (data_allowed changes all) whole
    (opening_done DataChanged changed_harmless image base entry hart h s p i)))
    long

pub closing_effect : ClosingEffect
closing_effect p part image base at pending h s i =
    let Q : After → Type 0 = ClosingDoes p Unchanged h s in
    done_within p 2 h s (replicate 2 []) GoesOn Q
    (comes_on_calmly GoesOn Unchanged p (λ a t. t) Q 1 (before h s) (λ s'. refl)
    (closing_does Unchanged unchanged_harmless p image base part at pending h s i))

pub closing_keeps_registers : ClosingKeepsRegisters
closing_keeps_registers p part image base at pending h s i changes all long =
    let Q : After → Type 0 = ClosingDoes p DataChanged h s in
    done_within p 2 h s changes GoesOn Q
    (comes_on GoesOn DataChanged p (λ a t. t) Q 1 (before h s) changes (data_allowed changes all) long
    (closing_does DataChanged changed_harmless p image base part at pending h s i))
