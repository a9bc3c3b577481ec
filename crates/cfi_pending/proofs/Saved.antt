-- From a saved start.
use Rattle.std.proofs.Common.{◌≡◌, ◌<◌, ◌≤◌, ℕ, true, List, ◌∷◌, length, inl, inr, refl, sym, subst, ◌∙◌, arith}
use Rattle.std.specs.Prelude.{◌⊎◌}
use Rattle.cfi_unit.specs.Shadow.{MOST_PENDING}
use Rattle.rv_instr.specs.Registers.{Registers}
use Rattle.cfi_unit.specs.declared.unit.Unit as U
use Rattle.cfi_unit.specs.declared.unit.Unit.TheVariants as V
use Rattle.cfi_unit.specs.Flow.{flow_of}
use Rattle.cfi_unit.specs.Leads.{FlowLeads, Legal}
use Rattle.cfi_unit.specs.declared.place.Place.TheVariants.{Body as body}
use Rattle.cfi_unit.specs.Prologue.{OPENING}
use Rattle.cfi_unit.specs.Templates.{LeftWith}
use Rattle.cfi_unit.specs.UnitWords.{after_unit}
use Rattle.cfi_pending.specs.Laws.{StaysBy}
use Rattle.cfi_pending.specs.PendingLeads.{PendingLeads}
use Rattle.cfi_pending.specs.Starts.{StandsBy, may_stand, next_start, fresh, saved}

module _ (legal : Legal) (at : ℕ) (pending before stacked : List ℕ) (r left : Registers) (next : ℕ) (all : before ≡ pending) (few : length before ≤ MOST_PENDING) where
  room : length pending ≤ MOST_PENDING
  room = subst (λ (ps : List ℕ). length ps ≤ MOST_PENDING) all few

  -- a unit with which they stay all on the shadow stack
  stays : (unit : U.Unit) → next_start saved unit ≡ saved →
      (FlowLeads legal (flow_of unit) (after_unit unit at) pending r stacked next → PendingLeads legal unit (after_unit unit at) pending r stacked next) →
      FlowLeads legal (flow_of unit) (after_unit unit at) before r stacked next → StaysBy legal unit at saved pending r left stacked next
  stays unit same read leads =
      record {
        newer = stacked;
        leads = read (subst (λ (ps : List ℕ). FlowLeads legal (flow_of unit) (after_unit unit at) ps r stacked next) all leads);
        stands = inl (subst (λ s. StandsBy s left stacked stacked) (sym same) refl);
      }

  pub from_saved : (unit : U.Unit) → may_stand saved unit ≡ true →
      FlowLeads legal (flow_of unit) (after_unit unit at) before r stacked next → LeftWith (body unit) at left ⊎ (next < OPENING) →
      StaysBy legal unit at saved pending r left stacked next
  from_saved (V.Gate label) may leads has = stays (V.Gate label) refl (λ l. l) leads
  from_saved (V.Plain instr) may leads has = stays (V.Plain instr) refl (λ l. l) leads
  from_saved (V.Branch op rs1 rs2 target) may leads has = stays (V.Branch op rs1 rs2 target) refl (λ l. l) leads
  from_saved (V.Near op rs1 rs2 target) may leads has = stays (V.Near op rs1 rs2 target) refl (λ l. l) leads
  from_saved (V.Jump target) may leads has = stays (V.Jump target) refl (λ l. l) leads
  from_saved V.Stop may leads has = stays V.Stop refl (λ l. l) leads
  from_saved (V.System op) may leads has = stays (V.System op) refl (λ l. l) leads
  from_saved (V.Guarded numbers) may leads has = stays (V.Guarded numbers) refl (λ l. l) leads
  from_saved (V.Stores mask rs1 imm members) may leads has = stays (V.Stores mask rs1 imm members) refl (λ l. l) leads
  from_saved V.Return may leads has = stays V.Return refl (λ l. l) leads
  from_saved (V.LeanIjump rs1 imm label) may leads has = stays (V.LeanIjump rs1 imm label) refl (λ l. l) leads
  from_saved (V.Call target) may leads has = stays (V.Call target) refl (λ l. l) leads
  from_saved (V.Ijump which rs1 imm label) may leads has = stays (V.Ijump which rs1 imm label) refl (λ l. l) leads
  from_saved (V.Icall rs1 imm label) may leads has = stays (V.Icall rs1 imm label) refl (λ l. l) leads
  from_saved V.Enter may leads has = absurd cc
  from_saved V.LeafReturn may leads has = absurd cc
  from_saved (V.LinkCall target) may leads has =
      record {
        newer = after_unit (V.LinkCall target) at ∷ pending;
        leads = (room, refl, leads.1);
        stands = linked has;
      }
    where
      linked : LeftWith (body (V.LinkCall target)) at left ⊎ (next < OPENING) → StandsBy fresh left (after_unit (V.LinkCall target) at ∷ pending) stacked ⊎ (next < OPENING)
      linked (inl link) = inl (link, leads.0 ∙ all)
      linked (inr low) = inr low
  from_saved (V.LeanIcall rs1 imm label) may (inl (legal_there, made)) has =
      record {
        newer = after_unit (V.LeanIcall rs1 imm label) at ∷ pending;
        leads = inl (legal_there, (room, refl, made.1));
        stands = linked has;
      }
    where
      linked : LeftWith (body (V.LeanIcall rs1 imm label)) at left ⊎ (next < OPENING) → StandsBy fresh left (after_unit (V.LeanIcall rs1 imm label) at ∷ pending) stacked ⊎ (next < OPENING)
      linked (inl link) = inl (link.0, made.0 ∙ all)
      linked (inr low) = inr low
  from_saved (V.LeanIcall rs1 imm label) may (inr (illegal, halted)) has =
      record {
        newer = pending;
        leads = inr (illegal, (refl, halted.1));
        stands = inr (omega (arith, halted.1));
      }
