-- What a lean opening does, word by word.
use Rattle.std.proofs.Common.{◌≡◌, ℕ, ◌+◌, ◌-◌, ◌*◌, ◌^◌, ◌<◌, inl, inr, [], length, Some, true, refl, sym, subst, ◌∙◌, arith}
use Rattle.std.specs.Prelude.{slice_get}
use Rattle.cfi_runs.proofs.Prelude.{wrap, Profile, SHADOW_START, lean_version_1, lean_version_2, part_of, Memory, Registers, set_reg, Instr, difference, Hart, Shared, After, exec, step, Fits, STORE_MASK, instrs_of, OPENING, lean_lone_set_up, lean_own_set_up, opening_instrs, Unchanged, SameRegisters, stack_of, slot, Stand, AtOpening, EntryFits, LeanOpeningDoes, LeanOpeningRuns, Within}
use Rattle.rv_image.proofs.Profiles.{laid_out}
use Rattle.cfi_unit.specs.declared.unit.Unit.TheVariants as V
use Rattle.cfi_unit.proofs.Context.{at_word, stand_back}
use Rattle.cfi_unit.proofs.EffectLean.{link_call_does}
use Rattle.cfi_unit.proofs.EffectRows.{unchanged_harmless}
use Rattle.cfi_unit.proofs.EffectSteps.{Now, same_again, same_link, same_set}
use Rattle.cfi_unit.proofs.Parts.{own_is_part}
use Rattle.cfi_unit.proofs.PrologueEffect.{same_trans}

-- the registers where the call of the entry stands: both stacks are set up, and x4 holds the mask of stores
record Ready (hart : ℕ) (r regs : Registers) : Type 0 where
  same : SameRegisters (set_reg r 2 (stack_of hart)) regs
  pointer : regs 3 ≡ slot (part_of hart) 0
  mask : regs 4 ≡ STORE_MASK

module _ (r : Registers) where
  abbrev masked_regs : Registers
  masked_regs = set_reg (set_reg (set_reg r 2 (2 ^ 28)) 4 (2 ^ 28)) 4 STORE_MASK

  same_masked : SameRegisters (set_reg r 2 (2 ^ 28)) masked_regs
  same_masked =
      same_set (set_reg r 2 (2 ^ 28)) (set_reg (set_reg r 2 (2 ^ 28)) 4 (2 ^ 28)) 4 STORE_MASK refl
      (same_set (set_reg r 2 (2 ^ 28)) (set_reg r 2 (2 ^ 28)) 4 (2 ^ 28) refl (record { same = λ k free. refl }))

  -- of a lone hart
  abbrev lone_regs : Registers
  lone_regs = set_reg (set_reg masked_regs 3 SHADOW_START) 3 (SHADOW_START + 8)

  same_lone : SameRegisters (set_reg r 2 (2 ^ 28)) lone_regs
  same_lone =
      same_set (set_reg r 2 (2 ^ 28)) (set_reg masked_regs 3 SHADOW_START) 3 (SHADOW_START + 8) refl
      (same_set (set_reg r 2 (2 ^ 28)) masked_regs 3 SHADOW_START refl same_masked)

  lone_ready : (hart : ℕ) → hart < 1 → Ready hart r lone_regs
  lone_ready hart below = record {
    same =
        let end : 2 ^ 28 ≡ stack_of hart = omega arith in
        subst (λ (v : ℕ). SameRegisters (set_reg r 2 v) lone_regs) end same_lone;
    pointer = omega arith;
    mask = refl;
  }

  -- of one of several
  abbrev below_stack : Registers
  below_stack = set_reg masked_regs 31 (wrap (r 10 * 2 ^ 20))

  abbrev own_stack_regs : Registers
  own_stack_regs = set_reg below_stack 2 (difference (2 ^ 28) (wrap (r 10 * 2 ^ 20)))

  abbrev at_shadow : Registers
  at_shadow = set_reg (set_reg own_stack_regs 3 SHADOW_START) 31 (wrap (r 10 * 2 ^ 16))

  abbrev at_part : Registers
  at_part = set_reg at_shadow 3 (wrap (SHADOW_START + wrap (r 10 * 2 ^ 16)))

  abbrev own_regs : Registers
  own_regs = set_reg at_part 3 (wrap (wrap (SHADOW_START + wrap (r 10 * 2 ^ 16)) + 8))

  same_own : (v : ℕ) → difference (2 ^ 28) (wrap (r 10 * 2 ^ 20)) ≡ v → SameRegisters (set_reg r 2 v) own_regs
  same_own v end =
      same_set (set_reg r 2 v) at_part 3 _ refl
      (same_set (set_reg r 2 v) at_shadow 3 _ refl
      (same_set (set_reg r 2 v) (set_reg own_stack_regs 3 SHADOW_START) 31 _ refl
      (same_set (set_reg r 2 v) own_stack_regs 3 _ refl
      (same_again r below_stack 2 (2 ^ 28) _ v end (same_set (set_reg r 2 (2 ^ 28)) masked_regs 31 _ refl same_masked)))))

  own_ready : (hart : ℕ) → hart < 8 → r 10 ≡ hart → Ready hart r own_regs
  own_ready hart below number = record { same = same_own (stack_of hart) (omega arith); pointer = omega arith; mask = refl }

module _ (p : Profile) (image base : Memory) (entry hart : ℕ) (h : Hart) (s : Shared) (lean : p.callee_saves ≡ true) (i : AtOpening p image base entry hart h s) where
  abbrev Does : After → Type 0
  Does = LeanOpeningDoes p image base entry hart h s

  -- a word of the opening
  opens : (n k : ℕ) (instr : Instr) (h' : Hart) → slice_get (opening_instrs p entry) k ≡ Some instr → h'.pc ≡ OPENING + 4 * k →
      Within p n Does (exec p instr h' s) → Within p n Does (step p h' s)
  opens n k instr h' is e next = at_word (Within p n Does) p h' i.context i.stands k instr is e next

  -- the last of them, as the unit that it is
  called : (h' : Hart) → Ready hart h.regs h'.regs → h'.pc ≡ p.opening_call → Stand image p.opening_call (instrs_of (V.LinkCall entry) p.opening_call) →
      Does (step p h' s)
  called h' ready e w =
      let laid = laid_out p i.is in
      let site = laid.call in
      let fits : Fits (V.LinkCall entry) p.opening_call = subst (λ b. EntryFits b p entry) lean i.fits in
      let now : Now Unchanged p (part_of hart) image base [] h'.regs s h' s = record {
        harmless = unchanged_harmless;
        own = own_is_part p i.is hart i.below;
        since = refl;
        context = i.context;
        same = record { same = λ k free. refl };
      } in
      let (left, scratch, made) = (link_call_does p.opening_call now e ready.pointer entry fits w).1 s refl in (
        record {
          turn = left.turn;
          pc = left.pc;
          regs = same_trans _ _ _ (same_link (set_reg h.regs 2 (stack_of hart)) h'.regs (p.opening_call + 4) p.closing site ready.same) left.regs;
          pointer = left.pointer;
          shared = left.shared;
          context = left.context;
        },
        scratch.x4 refl ∙ ready.mask,
      )

module _ (image base : Memory) (entry hart : ℕ) (h : Hart) (s : Shared) where
  lone_done : AtOpening lean_version_1 image base entry hart h s → Within lean_version_1 5 (LeanOpeningDoes lean_version_1 image base entry hart h s) (step lean_version_1 h s)
  lone_done i =
      let e = i.pc in
      let p = lean_version_1 in
      opens p image base entry hart h s refl i 5 0 _ h refl (omega arith)
      (inr (
        refl,
        opens p image base entry hart h s refl i 4 1 _ _ refl (omega arith)
            (inr (
              refl,
              opens p image base entry hart h s refl i 3 2 _ _ refl (omega arith)
                  (inr (
                    refl,
                    opens p image base entry hart h s refl i 2 3 _ _ refl (omega arith)
                        (inr (
                          refl,
                          opens p image base entry hart h s refl i 1 4 _ _ refl (omega arith)
                              (inr (
                                refl,
                                called p image base entry hart h s refl i (record { pc = h.pc + 4 + 4 + 4 + 4 + 4; regs = lone_regs h.regs }) (lone_ready h.regs hart i.below) (omega arith)
                                    (stand_back lean_lone_set_up _ i.stands),
                              )),
                        )),
                  )),
            )),
      ))

  own_done : AtOpening lean_version_2 image base entry hart h s → Within lean_version_2 9 (LeanOpeningDoes lean_version_2 image base entry hart h s) (step lean_version_2 h s)
  own_done i =
      let e = i.pc in
      let p = lean_version_2 in
      opens p image base entry hart h s refl i 9 0 _ h refl (omega arith)
      (inr (
        refl,
        opens p image base entry hart h s refl i 8 1 _ _ refl (omega arith)
            (inr (
              refl,
              opens p image base entry hart h s refl i 7 2 _ _ refl (omega arith)
                  (inr (
                    refl,
                    opens p image base entry hart h s refl i 6 3 _ _ refl (omega arith)
                        (inr (
                          refl,
                          opens p image base entry hart h s refl i 5 4 _ _ refl (omega arith)
                              (inr (
                                refl,
                                opens p image base entry hart h s refl i 4 5 _ _ refl (omega arith)
                                    (inr (
                                      refl,
                                      opens p image base entry hart h s refl i 3 6 _ _ refl (omega arith)
                                          (inr (
                                            refl,
                                            opens p image base entry hart h s refl i 2 7 _ _ refl (omega arith)
                                                (inr (
                                                  refl,
                                                  opens p image base entry hart h s refl i 1 8 _ _ refl (omega arith)
                                                      (inr (
                                                        refl,
                                                        called p image base entry hart h s refl i (record { pc = h.pc + 4 + 4 + 4 + 4 + 4 + 4 + 4 + 4 + 4; regs = own_regs h.regs }) (own_ready h.regs hart i.below i.number) (omega arith)
                                                            (stand_back lean_own_set_up _ i.stands),
                                                      )),
                                                )),
                                          )),
                                    )),
                              )),
                        )),
                  )),
            )),
      ))

pub lean_opening_runs : LeanOpeningRuns
lean_opening_runs p image base entry hart h s (inl e) i =
    subst
    (λ (x : Profile). AtOpening x image base entry hart h s → Within x (length (opening_instrs x entry) - 1) (LeanOpeningDoes x image base entry hart h s) (step x h s))
    (sym e) (lone_done image base entry hart h s) i
lean_opening_runs p image base entry hart h s (inr e) i =
    subst
    (λ (x : Profile). AtOpening x image base entry hart h s → Within x (length (opening_instrs x entry) - 1) (LeanOpeningDoes x image base entry hart h s) (step x h s))
    (sym e) (own_done image base entry hart h s) i
