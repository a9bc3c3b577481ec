-- What a step adds to the events: no instruction but a system call adds one, and that is made only where
-- a unit may call.
use Rattle.std.proofs.Common.{◌≡◌, ℕ, zero, suc, ◌+◌, ◌*◌, ◌==◌, ◌||◌, ◌^◌, ◌⊎◌, true, false, inl, inr, List, [], ◌∷◌, ◌++◌, length, Some, refl, sym, ap, subst, ◌∙◌, arith}
use Rattle.std.specs.Prelude.{nat_le, slice_get}
use Rattle.std.proofs.lemmas.Bool.{cond_both}
use Rattle.std.proofs.lemmas.Option.{slice_get_cases, slice_get_within}
use Rattle.rv_image.specs.MemoryMap.{Profile, can_load, can_store}
use Rattle.rv_word.specs.Memory.{Memory}
use Rattle.rv_word.specs.Numbers.{is_listed}
use Rattle.rv_instr.specs.Registers.{Registers, get_reg}
use Rattle.rv_instr.specs.declared.instr.Instr.{Instr}
use Rattle.rv_instr.specs.declared.instr.Instr.TheVariants.{Upper, Jal, Jalr, Branch, Load, Store, Immediate, Shift, ShiftWord, Register, Fence, Ecall, Ebreak}
use Rattle.rv_instr.specs.declared.instr.UpperOp.TheVariants.{Lui, Auipc}
use Rattle.rv_code.specs.Arithmetic.{branch_taken, load_size, store_size}
use Rattle.rv_code.specs.State.{Hart, Shared, After}
use Rattle.rv_code.specs.Step.{exec, address}
use Rattle.rv_code.specs.SystemCall.{answers, event_of, system_call, write_call, read_call}
use Rattle.rv_code.specs.declared.event.Event.{Event}
use Rattle.cfi_unit.specs.declared.unit.Unit as U
use Rattle.cfi_unit.specs.declared.unit.Unit.TheVariants as V
use Rattle.cfi_unit.specs.declared.unit.SystemOp.TheVariants as S
use Rattle.cfi_unit.specs.Guarded.{guards}
use Rattle.cfi_unit.specs.UnitWords.{BAD_TARGET, Fits, instrs_of, jump}
use Rattle.cfi_unit.specs.Prologue.{closing_instrs, handler_instrs, opening_instrs}
use Rattle.cfi_unit.specs.Place.{Place, handler, opening, closing, body, place_instrs}
use Rattle.cfi_unit.specs.InPlace.{InPlace, InUnit, InGuarded, guarded_load, guarded_test, guarded_other, guarded_call, InClosing, closing_number, closing_ecall}
use Rattle.cfi_unit.specs.UnitLaw.{MayStand}
use Rattle.cfi_unit.specs.EventLaw.{Adds, EventLaw, MayCall, UnitMayCall, adds_none, adds_one}
use Rattle.cfi_unit.proofs.Context.{at_word}
use Rattle.cfi_unit.proofs.Gates.{place_length}
use Rattle.cfi_unit.proofs.PlaceWords.{place_word}
use Rattle.cfi_unit.proofs.Sought.{is_sought, lacks, nowhere, opening_lacks, plain_lacks, stores_lack}

-- a system call adds one event, with the number in x17
pub record AddsOne (h : Hart) (s : Shared) (after : After) : Type 0 where
  pub event : Event
  pub added : after.shared.events ≡ s.events ++ event ∷ []
  pub number : event.number ≡ h.regs 17

module _ (h : Hart) (s : Shared) where
  answers_add : (s' : Shared) (bytes : List ℕ) (answer : ℕ) → s'.events ≡ s.events → AddsOne h s (answers h s' bytes answer)
  answers_add s' bytes answer same = record {
    event = event_of h bytes answer;
    added = ap (λ (l : List Event). l ++ event_of h bytes answer ∷ []) same;
    number = refl;
  }

  write_adds : AddsOne h s (write_call h s)
  write_adds =
      cond_both (h.regs 10 == 1 || h.regs 10 == 2) _ _ (AddsOne h s)
      (λ right. cond_both (nat_le (h.regs 11 + h.regs 12) (2 ^ 28)) _ _ (AddsOne h s) (λ inside. answers_add _ _ _ refl) (λ outside. answers_add _ _ _ refl))
      (λ wrong. answers_add _ _ _ refl)

  read_adds : AddsOne h s (read_call h s)
  read_adds =
      cond_both (h.regs 10 == 0) _ _ (AddsOne h s)
      (λ right. cond_both (nat_le (h.regs 11 + h.regs 12) (2 ^ 28)) _ _ (AddsOne h s) (λ inside. answers_add _ _ _ refl) (λ outside. answers_add _ _ _ refl))
      (λ wrong. answers_add _ _ _ refl)

  pub call_adds : AddsOne h s (system_call h s)
  call_adds =
      cond_both (h.regs 17 == 64) _ _ (AddsOne h s) (λ is. write_adds)
      (λ no. cond_both (h.regs 17 == 63) _ _ (AddsOne h s) (λ is. read_adds)
      (λ nor. cond_both (h.regs 17 == 93 || h.regs 17 == 94) _ _ (AddsOne h s)
      (λ is. record { event = event_of h [] 0; added = refl; number = refl }) (λ rest. answers_add _ _ _ refl)))

-- no other instruction adds one
pub quiet : (p : Profile) (i : Instr) (h : Hart) (s : Shared) → is_sought false i ≡ false → (exec p i h s).shared.events ≡ s.events
quiet p (Upper Lui rd imm) h s none = refl
quiet p (Upper Auipc rd imm) h s none = refl
quiet p (Jal rd imm) h s none = refl
quiet p (Jalr rd rs1 imm) h s none = refl
quiet p (Branch op rs1 rs2 imm) h s none =
    cond_both (branch_taken op (get_reg h.regs rs1) (get_reg h.regs rs2)) _ _ (λ (a : After). a.shared.events ≡ s.events) (λ taken. refl) (λ not_taken. refl)
quiet p (Load op rd rs1 imm) h s none =
    cond_both (can_load p (address h rs1 imm) (load_size op)) _ _ (λ (a : After). a.shared.events ≡ s.events) (λ can. refl) (λ cannot. refl)
quiet p (Store op rs1 rs2 imm) h s none =
    cond_both (can_store p (address h rs1 imm) (store_size op)) _ _ (λ (a : After). a.shared.events ≡ s.events) (λ can. refl) (λ cannot. refl)
quiet p (Immediate op rd rs1 imm) h s none = refl
quiet p (Shift op rd rs1 amount) h s none = refl
quiet p (ShiftWord op rd rs1 amount) h s none = refl
quiet p (Register op rd rs1 rs2) h s none = refl
quiet p (Fence word) h s none = refl
quiet p Ecall h s none = absurd (cc)
quiet p Ebreak h s none = refl

-- behind the tests it is the last word
last_call : (ns : List ℕ) (from to k : ℕ) → slice_get (guards ns ++ (jump from to ∷ Ecall ∷ [])) k ≡ Some Ecall → k ≡ 2 * length ns + 1
last_call [] from to zero is = absurd (cc)
last_call [] from to (suc zero) is = refl
last_call [] from to (suc (suc k)) is = absurd (cc)
last_call (n ∷ ns) from to zero is = absurd (cc)
last_call (n ∷ ns) from to (suc zero) is = absurd (cc)
last_call (n ∷ ns) from to (suc (suc k)) is = let others = last_call ns from to k is in omega arith

-- the unit then stands at its last word, and has found the number listed
guarded_may : {part at : ℕ} {ns : List ℕ} {x n : ℕ} {h : Hart} → InGuarded part at ns x n h → h.pc ≡ at + 4 * (2 * length ns + 1) →
    is_listed (h.regs 17) ns ≡ true
guarded_may (guarded_load k below e x3 x17 none) here = absurd (omega arith)
guarded_may {ns = ns} (guarded_test k number is e x3 x17 none x31) here = let below = slice_get_within ns k number is in absurd (omega arith)
guarded_may (guarded_other e x3 none) here = absurd (omega arith)
guarded_may {ns = ns} (guarded_call e x3 x17 listed) here = ap (λ y. is_listed y ns) x17 ∙ listed

closing_may : {at : ℕ} {h : Hart} → InClosing at h → h.pc ≡ at + 4 → (h.pc ≡ at + 4) × (h.regs 17 ≡ 93)
closing_may (closing_number e) here = absurd (omega arith)
closing_may (closing_ecall e x17) here = (e, x17)

closing_call : (k : ℕ) → slice_get closing_instrs k ≡ Some Ecall → k ≡ 1
closing_call zero is = absurd (cc)
closing_call (suc zero) is = refl
closing_call (suc (suc k)) is = absurd (cc)

module _ (p : Profile) (part : ℕ) (image : Memory) (at : ℕ) (pending : List ℕ) (r : Registers) (h : Hart) (m : Memory) (k : ℕ) (here : h.pc ≡ at + 4 * k) where
  none_there : (unit : U.Unit) → lacks false (instrs_of unit at) ≡ true → slice_get (instrs_of unit at) k ≡ Some Ecall → UnitMayCall unit h
  none_there unit none is = absurd (nowhere false (instrs_of unit at) k Ecall refl none is)

  unit_may : (unit : U.Unit) → Fits unit at → InUnit part image unit at pending r h m → slice_get (instrs_of unit at) k ≡ Some Ecall → UnitMayCall unit h
  unit_may (V.Plain instr) fits i is = none_there (V.Plain instr) (plain_lacks false instr fits.1) is
  unit_may (V.System S.Ecall) fits i is = tt
  unit_may (V.System S.Ebreak) fits i is = none_there (V.System S.Ebreak) refl is
  unit_may (V.Guarded ns) fits i is =
      let word = last_call ns (at + 8 * length ns) BAD_TARGET k is in guarded_may i (omega arith)
  unit_may (V.Stores mask rs1 imm members) fits i is = none_there (V.Stores mask rs1 imm members) (stores_lack false mask rs1 imm members) is
  unit_may other fits i is = none_there other refl is

  pub place_may : (place : Place) → MayStand p place at pending → InPlace p part image place at pending r h m →
      slice_get (place_instrs p place at) k ≡ Some Ecall → MayCall place at h
  place_may handler may i is = absurd (nowhere false handler_instrs k Ecall refl refl is)
  place_may (opening entry) may i is = absurd (nowhere false (opening_instrs p entry) k Ecall refl (opening_lacks false p (inl may.0) entry) is)
  place_may closing may i is = let word = closing_call k is in closing_may i (omega arith)
  place_may (body unit) may i is = unit_may unit may.0 i is

pub cases_call : (i : Instr) → (i ≡ Ecall) ⊎ (is_sought false i ≡ false)
cases_call Ecall = inl refl
cases_call (Upper Lui zero imm) = inr refl
cases_call (Upper Lui (suc rd) imm) = inr refl
cases_call (Upper Auipc rd imm) = inr refl
cases_call (Jal rd imm) = inr refl
cases_call (Jalr rd rs1 imm) = inr refl
cases_call (Branch op rs1 rs2 imm) = inr refl
cases_call (Load op rd rs1 imm) = inr refl
cases_call (Store op rs1 rs2 imm) = inr refl
cases_call (Immediate op rd rs1 imm) = inr refl
cases_call (Shift op rd rs1 amount) = inr refl
cases_call (ShiftWord op rd rs1 amount) = inr refl
cases_call (Register op rd rs1 rs2) = inr refl
cases_call (Fence word) = inr refl
cases_call Ebreak = inr refl

pub unit_events : EventLaw
unit_events p part image base place at pending r h s may w c i =
    let (k, below, here) = place_word p part image place at pending r h s.memory may i in
    let size = place_length p pending place at may in
    elim (slice_get_cases (place_instrs p place at) k).1 [
      | inl found ↦
          at_word (λ (a : After). Adds place at h s.events a.shared.events) p h c w k found.0 found.2 here
          (elim (cases_call found.0) [
            | inl call ↦
                let may_call : MayCall place at h =
                place_may p part image at pending r h s.memory k here place may i (found.2 ∙ ap (λ j. Some j) call) in
                let one = call_adds h s in
                subst (λ (j : Instr). Adds place at h s.events (exec p j h s).shared.events) (sym call)
                (adds_one one.event one.added one.number may_call)
            | inr other ↦ adds_none (quiet p found.0 h s other)
          ])
      | inr past ↦ let beyond = past.0 in absurd (omega arith)
    ]
