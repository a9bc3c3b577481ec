-- The handlers, the opening and the closing.
use Rattle.std.proofs.Common.{◌≡◌, ℕ, List, [], ◌∷◌, ◌++◌, refl, sym, ap, subst, arith}
use Rattle.rv_image.specs.MemoryMap.{IsFullProfile, IsProfile, Profile, version_1, version_2}
use Rattle.rv_word.specs.Memory.{Memory}
use Rattle.rv_instr.specs.Registers.{Registers}
use Rattle.rv_instr.specs.declared.instr.Instr.{Instr}
use Rattle.rv_instr.specs.declared.instr.Instr.TheVariants.{Ebreak}
use Rattle.rv_code.specs.State.{Hart, Shared, After}
use Rattle.rv_code.specs.Step.{step}
use Rattle.rv_code.specs.declared.turn.Turn.TheVariants.{Break}
use Rattle.rv_code.proofs.Calls.{exit_call}
use Rattle.cfi_unit.specs.declared.unit.Unit.TheVariants as V
use Rattle.cfi_unit.specs.UnitWords.{BAD_TARGET, BAD_RETURN, DEEP, Fits, instrs_of}
use Rattle.cfi_unit.specs.Prologue.{OPENING, call_at, set_up, handler_instrs, opening_instrs, closing_instrs, prologue_instrs}
use Rattle.cfi_unit.specs.Place.{handler, opening, closing}
use Rattle.cfi_unit.specs.Shadow.{IsPart}
use Rattle.cfi_unit.specs.Stand.{Stand}
use Rattle.cfi_unit.specs.Context.{Context}
use Rattle.cfi_unit.specs.Leads.{Calls}
use Rattle.cfi_unit.specs.InPlace.{InLoneSetUp, lone_stack, lone_shadow, lone_slot, InOwnSetUp, own_stack, own_stack_offset, own_stack_end, own_shadow, own_offset, own_part, own_slot, InOpening, opening_lone, opening_own, opening_call, InClosing, closing_number, closing_ecall, call_push, push_slli}
use Rattle.cfi_unit.specs.UnitLaw.{Outcome, stays, leaves, ends}
use Rattle.cfi_unit.proofs.Context.{at_word, stand_front, stand_back}
use Rattle.cfi_unit.proofs.Parts.{call_site, lone_part, opening_length, opening_parts, set_up_length}
use Rattle.cfi_unit.proofs.CallUnit.{AfterCall, call_inside, call_leaves, call_law}

module _ (p : Profile) (part : ℕ) (image base : Memory) (r : Registers) (h : Hart) (s : Shared) where
  pub handler_law : (at : ℕ) (pending : List ℕ) → Stand image at handler_instrs → Context part image base pending s → h.pc ≡ at →
      Outcome p part image base handler at pending r (step p h s)
  handler_law at pending w c e =
      at_word (Outcome p part image base handler at pending r) p h c w 0 _ refl (omega arith) (ends (ap Break e) c.kept)

  pub closing_law : (at : ℕ) (pending : List ℕ) → Stand image at closing_instrs → Context part image base pending s → InClosing at h →
      Outcome p part image base closing at pending r (step p h s)
  closing_law at pending w c (closing_number e) =
      at_word (Outcome p part image base closing at pending r) p h c w 0 _ refl (omega arith)
      (stays refl c (omega arith) (closing_ecall (omega arith) refl))
  closing_law at pending w c (closing_ecall e x17) =
      at_word (Outcome p part image base closing at pending r) p h c w 1 _ refl e (rw (exit_call h s x17) (ends (_, refl) c.kept))

module _ (part : ℕ) (image base : Memory) (r : Registers) (h : Hart) (s : Shared) (entry : ℕ) where
  abbrev Opens : Profile → After → Type 0
  Opens p = Outcome p part image base (opening entry) OPENING [] r

  lone_law : IsPart version_1 part → Stand image OPENING (opening_instrs version_1 entry) → Context part image base [] s → InLoneSetUp h →
      Opens version_1 (step version_1 h s)
  lone_law own w c (lone_stack e) =
      at_word (Opens version_1) version_1 h c w 0 _ refl e (stays refl c (omega arith) (opening_lone refl (lone_shadow (omega arith))))
  lone_law own w c (lone_shadow e) =
      at_word (Opens version_1) version_1 h c w 1 _ refl e (stays refl c (omega arith) (opening_lone refl (lone_slot (omega arith) refl)))
  lone_law own w c (lone_slot e x3) =
      let first = lone_part part own in
      at_word (Opens version_1) version_1 h c w 2 _ refl e
      (stays refl c (omega arith) (opening_call (h.regs 31) (call_push (push_slli (omega arith) refl (omega arith)))))

  own_law : IsPart version_2 part → Stand image OPENING (opening_instrs version_2 entry) → Context part image base [] s → InOwnSetUp part h →
      Opens version_2 (step version_2 h s)
  own_law own w c (own_stack e is) =
      at_word (Opens version_2) version_2 h c w 0 _ refl e (stays refl c (omega arith) (opening_own refl (own_stack_offset (omega arith) is)))
  own_law own w c (own_stack_offset e is) =
      at_word (Opens version_2) version_2 h c w 1 _ refl e (stays refl c (omega arith) (opening_own refl (own_stack_end (omega arith) is)))
  own_law own w c (own_stack_end e is) =
      at_word (Opens version_2) version_2 h c w 2 _ refl e (stays refl c (omega arith) (opening_own refl (own_shadow (omega arith) is)))
  own_law own w c (own_shadow e is) =
      at_word (Opens version_2) version_2 h c w 3 _ refl e (stays refl c (omega arith) (opening_own refl (own_offset (omega arith) is refl)))
  own_law own w c (own_offset e is x3) =
      let high = own.high in
      at_word (Opens version_2) version_2 h c w 4 _ refl e
      (stays refl c (omega arith) (opening_own refl (own_part (omega arith) (omega arith) x3)))
  own_law own w c (own_part e is x3) =
      let high = own.high in
      at_word (Opens version_2) version_2 h c w 5 _ refl e (stays refl c (omega arith) (opening_own refl (own_slot (omega arith) (omega arith))))
  own_law own w c (own_slot e x3) =
      let high = own.high in
      at_word (Opens version_2) version_2 h c w 6 _ refl e
      (stays refl c (omega arith) (opening_call (h.regs 31) (call_push (push_slli (omega arith) refl (omega arith)))))

  module _ (p : Profile) (is : IsFullProfile p) where
    opening_from : (v : ℕ) (after : After) → AfterCall part image base (call_at p) v [] entry after → Opens p after
    opening_from v after (call_inside t c low i) = let site = call_site p is in stays t c (omega arith) (opening_call v i)
    opening_from v after (call_leaves newer t c x3 goes) =
        leaves newer t c x3 (subst (λ (site : ℕ). Calls site [] newer after.hart.pc entry) (call_site p is).0 goes)

    pub opening_law : IsPart p part → Fits (V.Call entry) (call_at p) → Stand image OPENING (opening_instrs p entry) →
        Context part image base [] s → InOpening p part h s.memory → Opens p (step p h s)
    opening_law own fits w c (opening_lone e i) =
        subst (λ (x : Profile). IsPart x part → Stand image OPENING (opening_instrs x entry) → Opens x (step x h s)) (sym e)
        (λ own_1 w_1. lone_law own_1 w_1 c i) own w
    opening_law own fits w c (opening_own e i) =
        subst (λ (x : Profile). IsPart x part → Stand image OPENING (opening_instrs x entry) → Opens x (step x h s)) (sym e)
        (λ own_2 w_2. own_law own_2 w_2 c i) own w
    opening_law own fits w c (opening_call v i) =
        opening_from v (step p h s)
        (call_law p part image base (call_at p) v [] entry h s own (omega arith) fits
        (subst (λ (at : ℕ). Stand image at (instrs_of (V.Call entry) (call_at p))) (set_up_length p is) (stand_back (set_up p) _ (subst (λ (instrs : List Instr). Stand image OPENING instrs) (opening_parts p is entry) w))) c i)

-- the parts of a standing prologue
pub record PrologueStands (p : Profile) (image : Memory) (entry : ℕ) : Type 0 where
  pub bad_target : Stand image BAD_TARGET handler_instrs
  pub bad_return : Stand image BAD_RETURN handler_instrs
  pub deep : Stand image DEEP handler_instrs
  pub opening : Stand image OPENING (opening_instrs p entry)
  pub closing : Stand image p.closing closing_instrs

pub prologue_stands : (p : Profile) → IsProfile p → (image : Memory) (entry : ℕ) → Stand image BAD_TARGET (prologue_instrs p entry) →
    PrologueStands p image entry
prologue_stands p is image entry w =
    let after_1 = stand_back handler_instrs (Ebreak ∷ Ebreak ∷ opening_instrs p entry ++ closing_instrs) w in
    let after_2 = stand_back handler_instrs (Ebreak ∷ opening_instrs p entry ++ closing_instrs) after_1 in
    let after_3 = stand_back handler_instrs (opening_instrs p entry ++ closing_instrs) after_2 in
    record {
      bad_target = stand_front handler_instrs _ w;
      bad_return = stand_front handler_instrs _ after_1;
      deep = stand_front handler_instrs _ after_2;
      opening = stand_front (opening_instrs p entry) closing_instrs after_3;
      closing = subst (λ (at : ℕ). Stand image at closing_instrs) (opening_length p is entry) (stand_back (opening_instrs p entry) closing_instrs after_3);
    }
