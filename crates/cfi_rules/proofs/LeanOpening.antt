-- The opening of a lean image: which of the two it is, where its words stand, and that none of them is a system call.
use Rattle.std.proofs.Common.{◌≡◌, ℕ, ◌+◌, ◌*◌, ◌<◌, inl, inr, Bool, true, false, [], Some, refl, sym, ap, subst, ◌∙◌, arith}
use Rattle.std.specs.Prelude.{slice_get}
use Rattle.std.proofs.lemmas.Option.{slice_get_cases}
use Rattle.rv_image.specs.MemoryMap.{IsLeanProfile, Profile, lean_version_1, lean_version_2, part_of}
use Rattle.rv_word.specs.Memory.{Memory}
use Rattle.rv_instr.specs.declared.instr.Instr.{Instr}
use Rattle.rv_instr.specs.declared.instr.Instr.TheVariants.{Ecall}
use Rattle.rv_code.specs.State.{After, Hart, Shared}
use Rattle.rv_code.specs.Step.{step}
use Rattle.cfi_unit.specs.declared.place.Place.TheVariants.{Opening as opening}
use Rattle.cfi_unit.specs.Context.{Context}
use Rattle.cfi_unit.specs.EventLaw.{Adds, adds_none}
use Rattle.cfi_unit.specs.Place.{IsWordOf}
use Rattle.cfi_unit.specs.Prologue.{OPENING, opening_instrs}
use Rattle.cfi_unit.specs.Shadow.{IsPart}
use Rattle.cfi_unit.specs.Stand.{Stand}
use Rattle.cfi_unit.proofs.Context.{at_word}
use Rattle.cfi_unit.proofs.Events.{cases_call, quiet}
use Rattle.cfi_unit.proofs.Parts.{opening_length}
use Rattle.cfi_unit.proofs.Sought.{nowhere, opening_lacks}
use Rattle.cfi_pending.specs.Opening as lean
use Rattle.cfi_pending.specs.Opening.{InLone, InOwn, InSetUp, lone_call, lone_less, lone_mask, lone_shadow, lone_slot, lone_stack, own_call, own_end, own_less, own_mask, own_offset, own_part, own_part_offset, own_shadow, own_slot, own_stack}

-- the opening of this profile's images is that of a lone hart, or of one of several
pub record IsLeanOpening (p : Profile) (several : Bool) : Type 0 where
  pub instrs : (entry : ℕ) → opening_instrs p entry ≡ lean.opening_instrs several entry
  pub call : p.opening_call ≡ lean.call_at several
  pub site : p.closing ≡ lean.site_of several
  pub first : (part : ℕ) (h : Hart) → IsPart p part → part ≡ part_of (h.regs 10) → h.pc ≡ OPENING → InSetUp several part h

lone_first : (part : ℕ) (h : Hart) → IsPart lean_version_1 part → part ≡ part_of (h.regs 10) → h.pc ≡ OPENING → InSetUp false part h
lone_first part h is mine here = let low = is.low in let high = is.high in lone_stack here (omega arith)

lone_opening : IsLeanOpening lean_version_1 false
lone_opening = record { instrs = λ entry. refl; call = refl; site = refl; first = lone_first }

own_opening : IsLeanOpening lean_version_2 true
own_opening = record { instrs = λ entry. refl; call = refl; site = refl; first = λ part h is mine here. own_stack here mine }

pub lean_opening : (p : Profile) → IsLeanProfile p → (several : Bool) × IsLeanOpening p several
lean_opening p (inl e) = (false, subst (λ (q : Profile). IsLeanOpening q false) (sym e) lone_opening)
lean_opening p (inr e) = (true, subst (λ (q : Profile). IsLeanOpening q true) (sym e) own_opening)

lone_word : {part : ℕ} {h : Hart} → InLone part h → (k : ℕ) × (OPENING + 4 * k < lean.site_of false) × (h.pc ≡ OPENING + 4 * k)
lone_word (lone_stack e mine) = (0, omega arith, omega arith)
lone_word (lone_mask e mine) = (1, omega arith, omega arith)
lone_word (lone_less e mine x4) = (2, omega arith, omega arith)
lone_word (lone_shadow e mine x4) = (3, omega arith, omega arith)
lone_word (lone_slot e mine x4 x3) = (4, omega arith, omega arith)
lone_word (lone_call e x4 x3) = (5, omega arith, omega arith)

own_word : {part : ℕ} {h : Hart} → InOwn part h → (k : ℕ) × (OPENING + 4 * k < lean.site_of true) × (h.pc ≡ OPENING + 4 * k)
own_word (own_stack e mine) = (0, omega arith, omega arith)
own_word (own_mask e mine) = (1, omega arith, omega arith)
own_word (own_less e mine x4) = (2, omega arith, omega arith)
own_word (own_offset e mine x4) = (3, omega arith, omega arith)
own_word (own_end e mine x4) = (4, omega arith, omega arith)
own_word (own_shadow e mine x4) = (5, omega arith, omega arith)
own_word (own_part_offset e mine x4 x3) = (6, omega arith, omega arith)
own_word (own_part e mine x4 x3) = (7, omega arith, omega arith)
own_word (own_slot e x3 x4) = (8, omega arith, omega arith)
own_word (own_call e x4 x3) = (9, omega arith, omega arith)

set_up_word : (several : Bool) (part : ℕ) (h : Hart) → InSetUp several part h → (k : ℕ) × (OPENING + 4 * k < lean.site_of several) × (h.pc ≡ OPENING + 4 * k)
set_up_word true part h i = own_word i
set_up_word false part h i = lone_word i

module _ (p : Profile) (is : IsLeanProfile p) (several : Bool) (this : IsLeanOpening p several) (part : ℕ) (h : Hart) (i : InSetUp several part h) where
  pub lean_word : (entry at : ℕ) → at ≡ OPENING → IsWordOf p (opening entry) at h.pc
  lean_word entry at first =
      let (k, below, here) = set_up_word several part h i in
      let site = this.site in
      (k, omega arith, omega arith)

  pub lean_events : (image base : Memory) (entry : ℕ) (s : Shared) → Stand image OPENING (opening_instrs p entry) → Context part image base [] s →
      Adds (opening entry) OPENING h s.events (step p h s).shared.events
  lean_events image base entry s w c =
      let (k, below, here) = set_up_word several part h i in
      let site = this.site in
      let whole = opening_length p (inr is) entry in
      elim (slice_get_cases (opening_instrs p entry) k).1 [
        | inl found ↦
            at_word (λ (a : After). Adds (opening entry) OPENING h s.events a.shared.events) p h c w k found.0 found.2 here
            (elim (cases_call found.0) [
              | inl call ↦
                  let call_there : slice_get (opening_instrs p entry) k ≡ Some Ecall = found.2 ∙ ap (λ (j : Instr). Some j) call in
                  absurd (nowhere false (opening_instrs p entry) k Ecall refl (opening_lacks false p (inr is) entry) call_there)
              | inr other ↦ adds_none (quiet p found.0 h s other)
            ])
        | inr past ↦ let beyond = past.0 in absurd (omega arith)
      ]
