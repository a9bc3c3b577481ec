-- What may follow a unit is what does not go on with it.
use Rattle.std.proofs.Common.{◌≡◌, ℕ, ◌≤◌, ◌<◌, ◌||◌, false, not, inl, inr, List, [], ◌∷◌, length, refl, ap, arith}
use Rattle.std.specs.Prelude.{is_none, nat_le}
use Rattle.std.proofs.lemmas.Bool.{cases_eq, lt-leb, ne_eqb}
use Rattle.rv_code.specs.Decode.{decoded}
use Rattle.cfi_unit.specs.declared.mask.Mask.{Mask}
use Rattle.cfi_unit.specs.declared.pattern.End.TheVariants as E
use Rattle.cfi_unit.specs.declared.unit.Unit as U
use Rattle.cfi_unit.specs.declared.unit.Unit.TheVariants as V
use Rattle.cfi_unit.specs.declared.unit.SystemOp.TheVariants as S
use Rattle.cfi_unit.specs.Members.{MOST_MEMBERS, member_of}
use Rattle.cfi_unit.specs.UnitWords.{Fits, instr_at, may_precede, near_offset, skip_offset, skips_jump}
use Rattle.cfi_unit.specs.ShapeOf.{shape_of}
use Rattle.cfi_unit.specs.FoundShape.{goes_on}
use Rattle.cfi_unit.proofs.Forms.{is_jump_by, is_member_by}

over_ends : (rest : List ℕ) (here : ℕ) → not (skips_jump skip_offset (instr_at rest 0)) ≡ not (goes_on E.Over rest here)
over_ends [] here = refl
over_ends (w ∷ rest) here = ap not (is_jump_by here (decoded w))

stores_end : (mask : Mask) (count : ℕ) (rest : List ℕ) (here : ℕ) → nat_le MOST_MEMBERS count ≡ false →
    (nat_le MOST_MEMBERS count || is_none (member_of (instr_at rest 0))) ≡ not (goes_on (E.Stores mask) rest here)
stores_end mask count [] here fewer = rw fewer refl
stores_end mask count (w ∷ rest) here fewer = rw fewer (is_member_by here (decoded w))

pub precedes_by : (u : U.Unit) (at : ℕ) (rest : List ℕ) (here : ℕ) → Fits u at → may_precede u at rest ≡ not (goes_on ((shape_of u at).end) rest here)
precedes_by (V.Near op rs1 rs2 target) at rest here f =
    elim (cases_eq (near_offset at target) skip_offset) [
      | inl over ↦ rw over (over_ends rest here)
      | inr near ↦ rw (ne_eqb (near_offset at target) skip_offset near) refl
    ]
precedes_by (V.Stores mask rs1 imm members) at rest here f =
    elim (cases_eq (length members) 16) [
      | inl all ↦ rw all refl
      | inr fewer ↦
          let most : length members ≤ 16 = f.2.most in
          let below : length members < 16 = omega arith in
          rw (ne_eqb (length members) 16 fewer) (stores_end mask (length members) rest here (lt-leb 16 (length members) below))
    ]
precedes_by (V.System S.Ecall) at rest here f = refl
precedes_by (V.System S.Ebreak) at rest here f = refl
precedes_by other at rest here f = refl
