-- The unit law, all units.
use Rattle.std.proofs.Common.{ℕ, ◌^◌, ◌<◌, ◌≤◌, List, [], ◌∷◌, length, subst, sym}
use Rattle.rv_image.specs.MemoryMap.{Profile}
use Rattle.rv_word.specs.Memory.{Memory}
use Rattle.rv_instr.specs.Registers.{Registers}
use Rattle.rv_code.specs.State.{Hart, Shared, After}
use Rattle.rv_code.specs.Step.{step}
use Rattle.cfi_unit.specs.declared.unit.Unit as U
use Rattle.cfi_unit.specs.declared.unit.Unit.TheVariants as V
use Rattle.cfi_unit.specs.declared.unit.SystemOp.TheVariants as S
use Rattle.cfi_unit.specs.UnitWords.{instrs_of}
use Rattle.cfi_unit.specs.Prologue.{opening_instrs}
use Rattle.cfi_unit.specs.Place.{handler, opening, closing, body}
use Rattle.cfi_unit.specs.Shadow.{IsPart, MOST_PENDING}
use Rattle.cfi_unit.specs.Stand.{Stand}
use Rattle.cfi_unit.specs.Context.{Context}
use Rattle.cfi_unit.specs.InPlace.{InUnit, InOpening}
use Rattle.cfi_unit.specs.UnitLaw.{Outcome, stays, leaves, MayStand, UnitMayStand, UnitLaw}
use Rattle.cfi_unit.proofs.StoreUnit.{stores_law}
use Rattle.cfi_unit.proofs.GuardedUnit.{guarded_law}
use Rattle.cfi_unit.proofs.CallUnit.{AfterCall, call_inside, call_leaves, call_law}
use Rattle.cfi_unit.proofs.ReturnUnit.{return_law}
use Rattle.cfi_unit.proofs.ComputedUnits.{ijump_law, icall_law}
use Rattle.cfi_unit.proofs.EnterUnit.{enter_law}
use Rattle.cfi_unit.proofs.LeanUnits.{lean_ijump_law, lean_icall_law}
use Rattle.cfi_unit.proofs.Simple.{plain_law, gate_law, jump_law, stop_law, link_call_law, leaf_return_law, branch_law, near_law, ecall_law, ebreak_law}
use Rattle.cfi_unit.proofs.PrologueUnits.{handler_law, closing_law, opening_law}

module _ (p : Profile) (part : ℕ) (image base : Memory) where
  call_from : (at target : ℕ) (pending : List ℕ) (r : Registers) (after : After) → AfterCall part image base at (r 31) pending target after →
      Outcome p part image base (body (V.Call target)) at pending r after
  call_from at target pending r after (call_inside t c low i) = stays t c low i
  call_from at target pending r after (call_leaves newer t c x3 goes) = leaves newer t c x3 goes

  module _ (own : IsPart p part) (small : (k : ℕ) → image k < 2 ^ 8) (r : Registers) (h : Hart) (s : Shared) where
    pub body_law : (unit : U.Unit) (at : ℕ) (pending : List ℕ) → UnitMayStand unit at pending → length pending ≤ MOST_PENDING →
        Stand image at (instrs_of unit at) → Context part image base pending s → InUnit part image unit at pending r h s.memory →
        Outcome p part image base (body unit) at pending r (step p h s)
    body_law (V.Gate label) at pending may most w c i = gate_law p part image base at pending r h s label w c i
    body_law (V.Plain instr) at pending may most w c i = plain_law p part image base at pending r h s instr may.0 w c i
    body_law (V.Branch op rs1 rs2 target) at pending may most w c i =
        branch_law p part image base at pending r h s op rs1 rs2 target may.0 w c i
    body_law (V.Near op rs1 rs2 target) at pending may most w c i =
        near_law p part image base at pending r h s op rs1 rs2 target may.0 w c i
    body_law (V.Jump target) at pending may most w c i = jump_law p part image base at pending r h s target may.0 w c i
    body_law V.Stop at pending may most w c i = stop_law p part image base at pending r h s may.0 w c i
    body_law (V.System S.Ecall) at pending may most w c i = ecall_law p part image base at pending r h s own w c i
    body_law (V.System S.Ebreak) at pending may most w c i = ebreak_law p part image base at pending r h s w c i
    body_law (V.Guarded numbers) at pending may most w c i = guarded_law p part image base numbers at pending r h s own may.0 w c i
    body_law (V.Stores mask rs1 imm members) at pending may most w c i =
        stores_law p part image base rs1 imm members at pending r h s mask own may.0 w c i
    body_law (V.Call target) at pending may most w c i =
        call_from at target pending r (step p h s) (call_law p part image base at (r 31) pending target h s own most may.0 w c i)
    body_law (V.Ijump which rs1 imm label) at pending may most w c i =
        ijump_law p part image base rs1 imm label at pending r h s which small may.0 w c i
    body_law (V.Icall rs1 imm label) at pending may most w c i =
        icall_law p part image base rs1 imm label at pending r h s own most small may.0 w c i
    body_law (V.LinkCall target) at pending may most w c i = link_call_law p part image base at pending r h s target may.0 w c i
    body_law V.Enter at pending may most w c i = enter_law p part image base at pending r h s own most may.0 i.0 w c i.1
    body_law (V.LeanIjump rs1 imm label) at pending may most w c i =
        lean_ijump_law p part image base rs1 imm label at pending r h s small may.0 w c i
    body_law (V.LeanIcall rs1 imm label) at pending may most w c i =
        lean_icall_law p part image base rs1 imm label at pending r h s small may.0 w c i
    body_law V.LeafReturn at pending may most w c i = leaf_return_law p part image base at pending r h s w c i
    body_law V.Return at [] may most w c i = absurd i
    body_law V.Return at (site ∷ pending) may most w c i =
        return_law p part image base at site pending r h s own most may.0 may.1.0 may.1.1 w c i

    opening_at : (entry at : ℕ) (pending : List ℕ) → MayStand p (opening entry) at pending → Stand image at (opening_instrs p entry) →
        Context part image base pending s → InOpening p part h s.memory →
        Outcome p part image base (opening entry) at pending r (step p h s)
    opening_at entry at (site ∷ pending) may w c i = let none = may.2 in absurd (cc)
    opening_at entry at [] may w c i =
        subst (λ a. Outcome p part image base (opening entry) a [] r (step p h s)) (sym may.1)
        (opening_law part image base r h s entry p may.0 own may.3 (subst (λ a. Stand image a (opening_instrs p entry)) may.1 w) c i)

pub unit_law : UnitLaw
unit_law p part image base handler at pending r h s own small may most w c i = handler_law p part image base r h s at pending w c i
unit_law p part image base (opening entry) at pending r h s own small may most w c i =
    opening_at p part image base own small r h s entry at pending may w c i
unit_law p part image base closing at pending r h s own small may most w c i = closing_law p part image base r h s at pending w c i
unit_law p part image base (body unit) at pending r h s own small may most w c i =
    body_law p part image base own small r h s unit at pending may most w c i
