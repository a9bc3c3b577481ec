-- What the units do that leave a call's site in x1: calls, enters, leaf returns, and computed transfers that make the mask of stores again.
use Rattle.std.proofs.Common.{◌≡◌, ℕ, ◌+◌, ◌*◌, ◌-◌, ◌/◌, ◌^◌, ◌<◌, ◌≤◌, inl, inr, List, [], ◌∷◌, ◌++◌, length, refl, arith}
use Rattle.rv_image.specs.MemoryMap.{Profile}
use Rattle.rv_word.specs.Memory.{Memory}
use Rattle.rv_instr.specs.Registers.{Registers}
use Rattle.rv_instr.specs.declared.instr.Instr.{Instr}
use Rattle.rv_instr.specs.declared.instr.Instr.TheVariants.{Jalr}
use Rattle.rv_code.specs.State.{Hart, Shared, After}
use Rattle.rv_code.specs.Step.{address, exec}
use Rattle.rv_code.proofs.Within.{onward_then}
use Rattle.cfi_unit.specs.declared.target_word.TargetWord.{TargetWord}
use Rattle.cfi_unit.specs.declared.target_word.TargetWord.TheVariants.{First, Third}
use Rattle.cfi_unit.specs.declared.unit.Unit as U
use Rattle.cfi_unit.specs.declared.unit.Unit.TheVariants as V
use Rattle.cfi_unit.specs.UnitWords.{BAD_TARGET, DEEP, STORE_MASK, CheckFits, Fits, check, instrs_of, mask_made}
use Rattle.cfi_unit.specs.Shadow.{slot, MOST_PENDING}
use Rattle.cfi_unit.specs.Stand.{Stand}
use Rattle.cfi_unit.specs.Leads.{HasLabel, destination}
use Rattle.cfi_unit.specs.Leaving.{SameScratch}
use Rattle.cfi_unit.specs.EffectLaw.{Inside, UnitIsDone}
use Rattle.cfi_unit.proofs.Context.{stand_front}
use Rattle.cfi_unit.proofs.Jumps.{jump_leads}
use Rattle.cfi_unit.proofs.EffectSteps.{Now, RunsOn, Runs, before, onto, onto_put, same_link}
use Rattle.cfi_unit.proofs.EffectUnits.{halts_at, left_to, none_written}
use Rattle.cfi_unit.proofs.EffectTransfers.{check_does, saved_does}

-- the state at a unit's first word
module _ {may : Shared → Shared → Type 0} {p : Profile} {part : ℕ} {image base : Memory} {pending : List ℕ} {h : Hart} {s : Shared} (at : ℕ) (now : Now may p part image base pending h.regs s h s) (e : h.pc ≡ at) (x3 : h.regs 3 ≡ slot part (length pending)) where
  abbrev Does : U.Unit → After → Type 0
  Does unit = UnitIsDone p part image base may h s unit at pending

  pub link_call_does : (target : ℕ) → Fits (V.LinkCall target) at → Stand image at (instrs_of (V.LinkCall target) at) →
      RunsOn may p h.regs 0 (Does (V.LinkCall target)) (before h s)
  link_call_does target fits w =
      onto 0 (Does (V.LinkCall target)) now w 0 (omega arith) _ refl
      (λ s' on. (
        record {
          turn = refl;
          pc = jump_leads h.pc at target e fits;
          regs = same_link h.regs h.regs (h.pc + 4) (at + 4) (omega arith) on.same;
          pointer = x3;
          shared = on.since;
          context = on.context;
        },
        record { x4 = λ free. refl; x30 = λ free. refl; x31 = λ free. refl },
        tt,
      ))

  pub leaf_return_does : Stand image at (instrs_of V.LeafReturn at) → RunsOn may p h.regs 0 (Does V.LeafReturn) (before h s)
  leaf_return_does w =
      onto 0 (Does V.LeafReturn) now w 0 (omega arith) _ refl
      (λ s' on. (
        record { turn = refl; pc = refl; regs = on.same; pointer = x3; shared = on.since; context = on.context },
        none_written (instrs_of V.LeafReturn at) h.regs,
        tt,
      ))

  x30_written : (regs : Registers) → regs 4 ≡ h.regs 4 → regs 31 ≡ h.regs 31 → SameScratch (instrs_of V.Enter at) h.regs regs
  x30_written regs x4 x31 = record { x4 = λ free. x4; x30 = λ free. absurd (cc); x31 = λ free. x31 }

  pub enter_does : length pending ≤ MOST_PENDING → h.regs 1 < 2 ^ 64 → Fits V.Enter at → Stand image at (instrs_of V.Enter at) →
      RunsOn may p h.regs 4 (Does V.Enter) (before h s)
  enter_does most small fits w =
      saved_does at (Does V.Enter) h s now most e x3 fits small w
      (λ h' s' room e' x3' x4 x31 on. (inl (room, left_to (at + 20) on e' x3'), x30_written h'.regs x4 x31, tt))
      (λ h' s' full to x4 x31 on. (inr (full, halts_at DEEP on to), x30_written h'.regs x4 x31, tt))

  module _ (rs1 imm label : ℕ) (small : (k : ℕ) → image k < 2 ^ 8) where
    abbrev to : ℕ
    to = destination h.regs rs1 imm

    -- a check, then the mask of stores, then the transfer
    transfer_does : (which : TargetWord) (last : Instr) (Q : After → Type 0) → CheckFits at rs1 imm label → Stand image at (check at rs1 imm label which ++ mask_made ++ last ∷ []) →
        ((h' : Hart) (s' : Shared) → HasLabel image which label to → h'.pc ≡ at + 56 → h'.regs 3 ≡ slot part (length pending) → h'.regs 31 ≡ to →
        h'.regs 4 ≡ STORE_MASK → Now may p part image base pending h.regs s h' s' → Q (exec p last h' s')) →
        ((h' : Hart) (s' : Shared) → (HasLabel image which label to → ⊥) → h'.pc ≡ BAD_TARGET → Now may p part image base pending h.regs s h' s' → Q (before h' s')) →
        RunsOn may p h.regs 14 Q (before h s)
    transfer_does which last Q fits w legal illegal =
        let R : After → Type 0 = Runs may p h.regs 3 Q in
        onward_then (Inside h.regs) may p 11 3 R Q (before h s)
        (check_does which at rs1 imm label R h s now e x3 small fits (stand_front (check at rs1 imm label which) _ w)
        (λ h1 s1 has e1 x3' x31 now1. inr (onto_put 2 Q now1 w 12 e1 _ refl 4 _ (STORE_MASK + 1) refl (λ s'. refl) refl
        (λ pc2 s2 e2 now2. inr (onto_put 1 Q now2 w 13 e2 _ refl 4 _ STORE_MASK refl (λ s'. refl) refl
        (λ pc3 s3 e3 now3. inr (onto 0 Q now3 w 14 e3 last refl
        (λ s4 on. legal _ s4 has e3 x3' x31 refl on)))))))
        (λ h1 s1 none goes now1. inl (illegal h1 s1 none goes now1)))
        (λ b on. on)

    -- a check writes all three
    jump_writes : (regs : Registers) → SameScratch (instrs_of (V.LeanIjump rs1 imm label) at) h.regs regs
    jump_writes regs = record { x4 = λ free. absurd (cc); x30 = λ free. absurd (cc); x31 = λ free. absurd (cc) }

    call_writes : (regs : Registers) → SameScratch (instrs_of (V.LeanIcall rs1 imm label) at) h.regs regs
    call_writes regs = record { x4 = λ free. absurd (cc); x30 = λ free. absurd (cc); x31 = λ free. absurd (cc) }

    -- the transfer clears its lowest bit, which is 0
    arrives : (which : TargetWord) (h' : Hart) → h'.regs 31 ≡ to → HasLabel image which label to → address h' 31 0 / 2 * 2 ≡ to
    arrives which h' is has = let round = has.round in let high = has.high in omega arith

    arrives_beyond : (which : TargetWord) (h' : Hart) → h'.regs 31 ≡ to → HasLabel image which label to → address h' 31 8 / 2 * 2 ≡ to + 8
    arrives_beyond which h' is has = let round = has.round in let high = has.high in omega arith

    pub lean_ijump_does : Fits (V.LeanIjump rs1 imm label) at → Stand image at (instrs_of (V.LeanIjump rs1 imm label) at) →
        RunsOn may p h.regs 14 (Does (V.LeanIjump rs1 imm label)) (before h s)
    lean_ijump_does fits w =
        transfer_does First (Jalr 0 31 0) (Does (V.LeanIjump rs1 imm label)) fits w
        (λ h' s' has e' x3' x31 x4 on. (
          inl (
            has,
            record {
              turn = refl;
              pc = arrives First h' x31 has;
              regs = on.same;
              pointer = x3';
              shared = on.since;
              context = on.context;
            },
          ),
          jump_writes _,
          λ passed. x4,
        ))
        (λ h' s' none goes on. (inr (none, halts_at BAD_TARGET on goes), jump_writes h'.regs, λ has. absurd (none has)))

    pub lean_icall_does : Fits (V.LeanIcall rs1 imm label) at → Stand image at (instrs_of (V.LeanIcall rs1 imm label) at) →
        RunsOn may p h.regs 14 (Does (V.LeanIcall rs1 imm label)) (before h s)
    lean_icall_does fits w =
        transfer_does Third (Jalr 1 31 8) (Does (V.LeanIcall rs1 imm label)) fits w
        (λ h' s' has e' x3' x31 x4 on. (
          inl (
            has,
            record {
              turn = refl;
              pc = arrives_beyond Third h' x31 has;
              regs = same_link h.regs h'.regs (h'.pc + 4) (at + 60) (omega arith) on.same;
              pointer = x3';
              shared = on.since;
              context = on.context;
            },
          ),
          call_writes _,
          λ passed. x4,
        ))
        (λ h' s' none goes on. (inr (none, halts_at BAD_TARGET on goes), call_writes h'.regs, λ has. absurd (none has)))
