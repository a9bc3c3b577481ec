-- From a fresh start.
use Rattle.std.proofs.Common.{◌≡◌, ◌%◌, ◌^◌, ◌<◌, ℕ, true, List, ◌∷◌, length, inl, inr, refl, sym, subst, ap, ◌∙◌, arith}
use Rattle.rv_instr.specs.Registers.{Registers}
use Rattle.cfi_unit.specs.declared.unit.SystemOp.TheVariants as S
use Rattle.cfi_unit.specs.declared.unit.Unit as U
use Rattle.cfi_unit.specs.declared.unit.Unit.TheVariants as V
use Rattle.cfi_unit.specs.Flow.{flow_of}
use Rattle.cfi_unit.specs.Leads.{FlowLeads, Legal, linked_to}
use Rattle.cfi_unit.specs.UnitLaw.{ReturnsTo}
use Rattle.cfi_unit.specs.UnitWords.{after_unit}
use Rattle.cfi_pending.specs.Laws.{StaysBy}
use Rattle.cfi_pending.specs.PendingLeads.{PendingLeads}
use Rattle.cfi_pending.specs.Starts.{StandsBy, may_stand, next_start, fresh}

-- where x1 leads, if it holds an instruction's address
leads_back : (r : Registers) (site : ℕ) → r 1 ≡ site → site % 2 ≡ 0 → site < 2 ^ 64 → linked_to r ≡ site
leads_back r site link even low = rw link (omega arith)

module _ (legal : Legal) (at site : ℕ) (rest before stacked : List ℕ) (r left : Registers) (next : ℕ) (link : r 1 ≡ site) (others : before ≡ rest) (kept : left 1 ≡ r 1) where
  -- a unit with which the newest stays in x1, and the others on the shadow stack
  stays : (unit : U.Unit) → next_start fresh unit ≡ fresh → stacked ≡ before → PendingLeads legal unit (after_unit unit at) (site ∷ rest) r (site ∷ rest) next →
      StaysBy legal unit at fresh (site ∷ rest) r left stacked next
  stays unit same is leads =
      record {
        newer = site ∷ rest;
        leads = leads;
        stands = inl (subst (λ s. StandsBy s left (site ∷ rest) stacked) (sym same) (kept ∙ link, is ∙ others));
      }

  pub from_fresh : (unit : U.Unit) → may_stand fresh unit ≡ true → ReturnsTo (site ∷ rest) →
      FlowLeads legal (flow_of unit) (after_unit unit at) before r stacked next → StaysBy legal unit at fresh (site ∷ rest) r left stacked next
  from_fresh (V.Gate label) may to leads = stays (V.Gate label) refl leads.0 (refl, leads.1)
  from_fresh (V.Plain instr) may to leads = stays (V.Plain instr) refl leads.0 (refl, leads.1)
  from_fresh (V.Branch op rs1 rs2 target) may to (inl leads) = stays (V.Branch op rs1 rs2 target) refl leads.0 (inl (refl, leads.1))
  from_fresh (V.Branch op rs1 rs2 target) may to (inr leads) = stays (V.Branch op rs1 rs2 target) refl leads.0 (inr (refl, leads.1))
  from_fresh (V.Near op rs1 rs2 target) may to (inl leads) = stays (V.Near op rs1 rs2 target) refl leads.0 (inl (refl, leads.1))
  from_fresh (V.Near op rs1 rs2 target) may to (inr leads) = stays (V.Near op rs1 rs2 target) refl leads.0 (inr (refl, leads.1))
  from_fresh (V.Jump target) may to leads = stays (V.Jump target) refl leads.0 (refl, leads.1)
  from_fresh V.Stop may to leads = stays V.Stop refl leads.0 (refl, leads.1)
  from_fresh (V.System S.Ecall) may to leads = stays (V.System S.Ecall) refl leads.0 (refl, leads.1)
  from_fresh (V.System S.Ebreak) may to leads = absurd leads
  from_fresh (V.Guarded numbers) may to (inl (listed, leads)) = stays (V.Guarded numbers) refl leads.0 (inl (listed, (refl, leads.1)))
  from_fresh (V.Guarded numbers) may to (inr (other, leads)) = stays (V.Guarded numbers) refl leads.0 (inr (other, (refl, leads.1)))
  from_fresh (V.Stores mask rs1 imm members) may to leads = stays (V.Stores mask rs1 imm members) refl leads.0 (refl, leads.1)
  from_fresh V.Enter may to (inl (room, grown, on)) =
      record {
        newer = site ∷ rest;
        leads = inl (omega (arith, room, ap length others), (refl, on));
        stands = inl (grown ∙ ap (λ x. x ∷ before) link ∙ ap (λ ps. site ∷ ps) others);
      }
  from_fresh V.Enter may to (inr (full, same, deep)) =
      record {
        newer = site ∷ rest;
        leads = inr (omega (arith, full, ap length others), (refl, deep));
        stands = inr (omega (arith, deep));
      }
  from_fresh V.LeafReturn may to leads =
      record {
        newer = rest;
        leads = (refl, leads.1 ∙ leads_back r site link to.0 to.1);
        stands = inl (leads.0 ∙ others);
      }
  from_fresh (V.Call target) may to leads = absurd cc
  from_fresh (V.Ijump which rs1 imm label) may to leads = absurd cc
  from_fresh (V.Icall rs1 imm label) may to leads = absurd cc
  from_fresh V.Return may to leads = absurd cc
  from_fresh (V.LinkCall target) may to leads = absurd cc
  from_fresh (V.LeanIjump rs1 imm label) may to leads = absurd cc
  from_fresh (V.LeanIcall rs1 imm label) may to leads = absurd cc
