-- Where the registers at a place lead the walk, it may go whatever they are.
use Rattle.std.proofs.Common.{◌≡◌, ℕ, inl, inr, Bool, true, false, List, [], ◌∷◌, refl, sym, ap, subst, ◌∙◌, Some}
use Rattle.std.proofs.lemmas.Bool.{false≢true}
use Rattle.rv_image.specs.MemoryMap.{Profile}
use Rattle.rv_word.proofs.Cases.{cases_Option}
use Rattle.rv_instr.specs.Registers.{Registers}
use Rattle.cfi_graph.specs.declared.line.GraphLine.{GraphLine}
use Rattle.cfi_graph.specs.declared.line.SiteKind.{SiteKind}
use Rattle.cfi_graph.specs.declared.line.SiteKind.TheVariants as K
use Rattle.cfi_unit.specs.declared.unit.SystemOp.TheVariants as S
use Rattle.cfi_unit.specs.declared.place.Place.{Place}
use Rattle.cfi_unit.specs.declared.place.Place.TheVariants.{Handler as handler, Opening as opening, Closing as closing, Body as body}
use Rattle.cfi_unit.specs.declared.target_word.TargetWord.{TargetWord}
use Rattle.cfi_unit.specs.declared.target_word.TargetWord.TheVariants.{First}
use Rattle.cfi_unit.specs.Flow as F
use Rattle.cfi_unit.specs.Flow.{Exit, Flow, flow_of}
use Rattle.cfi_unit.specs.Leads as L
use Rattle.cfi_unit.specs.Leads.{Decides, ExitLeads, Legal, Returns, destination}
use Rattle.cfi_unit.specs.UnitWords.{BAD_TARGET, after_unit}
use Rattle.cfi_unit.proofs.Flows.{Suits, entered, is_untested, linked_back, linking_call, linking_computed_call, suits, untested, direct_call, guarded_call, computed_jump, computed_call, turned_back}
use Rattle.cfi_pending.specs.PendingLeads.{GoesBack, Saves, SiteLeads}
use Rattle.cfi_rules.specs.Along.{OpeningLeads, PlaceLeads}
use Rattle.cfi_rules.specs.Lines.{holds_of, is_among, targets_for}
use Rattle.cfi_rules.specs.Walk.{ExitGoes, FlowGoes, Goes, HasTarget, InClass, LeafGoes, OpeningGoes, ReturnGoes, SaveGoes, by_class, is_some_target}

-- where a unit of this flow leads, with all pending sites
abbrev LeadsBy : Legal → Flow → ℕ → List ℕ → Registers → List ℕ → ℕ → Type 0
LeadsBy legal f following pending r newer v =
    Decides legal r f.test f.sites (SiteLeads f.sites f.exit following pending r newer v) (L.Goes pending newer v BAD_TARGET)

module _ (lines : List GraphLine) where
  -- a class that an address is in has a target
  pub class_parts : (kind : SiteKind) (which : TargetWord) (label v : ℕ) → InClass lines kind which label v →
      (ts : List ℕ) × (targets_for lines kind which label ≡ Some ts) × (is_among v ts ≡ true)
  class_parts kind which label v inside =
      elim (cases_Option (targets_for lines kind which label)) [
        | inl none ↦ absurd (false≢true (sym (ap (λ o. holds_of o (is_among v)) none) ∙ inside))
        | inr (ts, some) ↦ (ts, some, sym (ap (λ o. holds_of o (is_among v)) some) ∙ inside)
      ]

  has_target : (kind : SiteKind) (which : TargetWord) (label v : ℕ) → InClass lines kind which label v → HasTarget lines kind which label
  has_target kind which label v inside =
      let c = class_parts kind which label v inside in ap (λ o. holds_of o is_some_target) c.1 ∙ some_target c.0 c.2
    where
      some_target : (ts : List ℕ) → is_among v ts ≡ true → is_some_target ts ≡ true
      some_target [] e = absurd (cc)
      some_target (t ∷ ts) e = refl

  returns_go : (r : Registers) (pending newer : List ℕ) (v : ℕ) → Returns r pending newer v → ReturnGoes pending v newer
  returns_go r [] newer v l = absurd l
  returns_go r (site ∷ older) newer v (inl l) = inl (l.1.1, l.1.0)
  returns_go r (site ∷ older) newer v (inr l) = inr (l.1.1, l.1.0)

  goes_back : (pending newer : List ℕ) (v : ℕ) → GoesBack pending newer v → LeafGoes pending v newer
  goes_back [] newer v l = absurd l
  goes_back (site ∷ older) newer v l = (l.1, l.0)

  opening_goes : (callee_saves : Bool) (site entry : ℕ) (pending newer : List ℕ) (v : ℕ) → OpeningLeads callee_saves site entry pending newer v →
      OpeningGoes callee_saves site entry pending v newer
  opening_goes false site entry pending newer v (inl l) = inl (l.0, l.2, l.1)
  opening_goes false site entry pending newer v (inr l) = inr (l.0, (l.2, l.1))
  opening_goes true site entry pending newer v l = (l.0, l.2, l.1)

  module _ (following : ℕ) (pending : List ℕ) (r : Registers) (newer : List ℕ) (v : ℕ) where
    exit_goes : (exit : Exit) → is_untested exit ≡ true → ExitLeads exit F.keeps following pending r newer v → ExitGoes exit F.keeps following pending v newer
    exit_goes F.on is l = (l.1, l.0)
    exit_goes (F.either op rs1 rs2 met target) is (inl l) = inl (l.1, l.0)
    exit_goes (F.either op rs1 rs2 met target) is (inr l) = inr (l.1, l.0)
    exit_goes (F.to target) is l = (l.1, l.0)
    exit_goes (F.halts stop) is l = (l.1, l.0)
    exit_goes (F.after S.Ecall) is l = (l.1, l.0)
    exit_goes (F.after S.Ebreak) is l = absurd l
    exit_goes other is l = absurd (cc)

    untested_leads : (exit : Exit) → is_untested exit ≡ true → SiteLeads F.keeps exit following pending r newer v →
        ExitLeads exit F.keeps following pending r newer v
    untested_leads F.linked is l = absurd (cc)
    untested_leads other is l = l

    saves_go : Saves following pending newer v → SaveGoes following pending v newer
    saves_go (inl l) = inl (l.0, (l.1.1, l.1.0))
    saves_go (inr l) = inr (l.0, (l.1.1, l.1.0))

    flow_goes : (f : Flow) → Suits f → LeadsBy (by_class lines) f following pending r newer v → FlowGoes lines f following pending v newer
    flow_goes f (untested exit act is) l = exit_goes exit is (untested_leads exit is l)
    flow_goes f (direct_call target) (inl l) = inl (l.0, l.2, l.1)
    flow_goes f (direct_call target) (inr l) = inr (l.0, (l.2, l.1))
    flow_goes f (guarded_call numbers) (inl l) = inl (l.1.1, l.1.0)
    flow_goes f (guarded_call numbers) (inr l) = inr (l.1.1, l.1.0)
    flow_goes f (computed_jump which rs1 imm label) (inl l) = inl (subst (λ (x : ℕ). InClass lines K.Jump which label x) (sym l.1.1) l.0, l.1.0)
    flow_goes f (computed_jump which rs1 imm label) (inr l) = inr (l.1.1, l.1.0)
    flow_goes f (computed_call rs1 imm label) (inl (legal, inl l)) = inr (inl (l.0, subst (λ (x : ℕ). InClass lines K.Call First label x) (sym l.2) legal, l.1))
    flow_goes f (computed_call rs1 imm label) (inl (legal, inr l)) = inr (inr (l.0, has_target K.Call First label _ legal, (l.2, l.1)))
    flow_goes f (computed_call rs1 imm label) (inr l) = inl (l.1.1, l.1.0)
    flow_goes f turned_back l = returns_go r pending newer v l
    flow_goes f (linking_call target) l = (l.0, l.2, l.1)
    flow_goes f entered l = saves_go l
    flow_goes f (linking_computed_call rs1 imm label) (inl l) = inr (destination r rs1 imm, l.0, (l.1.0, l.1.2, l.1.1))
    flow_goes f (linking_computed_call rs1 imm label) (inr l) = inl (l.1.1, l.1.0)
    flow_goes f linked_back l = goes_back pending newer v l

  pub leads_goes : (p : Profile) (place : Place) (at : ℕ) (pending : List ℕ) (r : Registers) (newer : List ℕ) (v : ℕ) →
      PlaceLeads p (by_class lines) place at pending r newer v → Goes p lines place at pending v newer
  leads_goes p handler at pending r newer v l = absurd l
  leads_goes p closing at pending r newer v l = absurd l
  leads_goes p (opening entry) at pending r newer v l = opening_goes p.callee_saves p.closing entry pending newer v l
  leads_goes p (body unit) at pending r newer v l =
      flow_goes (after_unit unit at) pending r newer v (flow_of unit) (suits unit) l
