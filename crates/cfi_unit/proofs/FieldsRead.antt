-- The fields of a unit are read back from its words, whatever follows them that may.
use Rattle.std.proofs.Common.{◌≡◌, ℕ, suc, ◌+◌, ◌^◌, ◌==◌, ◌≤◌, ◌||◌, ◌⊎◌, true, refl, ap, sym, ◌∙◌, arith, lit<, List, ◌++◌, length, inl, inr}
use Rattle.std.specs.Prelude.{Option, Some, None, is_none, nat_le, option_map}
use Rattle.std.proofs.lemmas.Bool.{cases_Bool, leb-true, or_cases}
use Rattle.std.proofs.lemmas.Nat.{mod_below}
use Rattle.rv_instr.specs.declared.instr.Instr.TheVariants.{Upper, Jal, Branch, Immediate, Register}
use Rattle.rv_instr.specs.declared.instr.UpperOp.TheVariants.{Lui}
use Rattle.rv_instr.specs.declared.instr.ImmediateOp.TheVariants.{Addi}
use Rattle.rv_instr.specs.declared.instr.RegisterOp.TheVariants.{And}
use Rattle.rv_code.proofs.ReadBack.{decoded-code_of}
use Rattle.cfi_unit.specs.declared.mask.Mask.{Mask}
use Rattle.cfi_unit.specs.declared.mask.Mask.TheVariants.{Shifts, Short, Long}
use Rattle.cfi_unit.specs.declared.members.Member.{Member}
use Rattle.cfi_unit.specs.declared.unit.Unit as U
use Rattle.cfi_unit.specs.declared.unit.Unit.TheVariants as V
use Rattle.cfi_unit.specs.declared.unit.SystemOp.TheVariants as S
use Rattle.cfi_unit.specs.Members.{MOST_MEMBERS, member_of}
use Rattle.cfi_unit.specs.UnitWords.{Fits, gate, instr_at, jump, jump_offset, may_precede, near_offset, skip_offset, words_of}
use Rattle.cfi_unit.specs.Recognise.{members_in, stores_in, unit_of}
use Rattle.cfi_unit.specs.ShapeOf.{shape_of}
use Rattle.cfi_unit.proofs.GuardedWords.{guarded_read}
use Rattle.cfi_unit.proofs.Jumps.{is_jump_instr}
use Rattle.cfi_unit.proofs.MemberWords.{members_back}

-- after so many members no other is asked for, or none follows
whole : (members : List Member) (rest : List ℕ) → (nat_le MOST_MEMBERS (length members) || is_none (member_of (instr_at rest 0))) ≡ true →
    (MOST_MEMBERS ≤ length members) ⊎ (member_of (instr_at rest 0) ≡ None)
whole members rest ahead =
    elim (or_cases (nat_le MOST_MEMBERS (length members)) (is_none (member_of (instr_at rest 0))) ahead) [
      | inl most ↦ inl (leb-true MOST_MEMBERS (length members) most)
      | inr none ↦ inr (nothing (member_of (instr_at rest 0)) none)
    ]
  where
    nothing : (o : Option Member) → is_none o ≡ true → o ≡ None
    nothing None e = refl
    nothing (Some m) e = absurd (cc)

-- the stores behind a mask
members_read : (mask : Mask) (rs1 imm : ℕ) (members : List Member) (at : ℕ) (rest : List ℕ) → Fits (V.Stores mask rs1 imm members) at →
    may_precede (V.Stores mask rs1 imm members) at rest ≡ true →
    members_in mask (words_of (V.Stores mask rs1 imm members) at ++ rest) ≡ members
unfolding words_of
members_read Shifts rs1 imm members at rest f ahead =
    members_back MOST_MEMBERS members (words_of (V.Stores Shifts rs1 imm members) at ++ rest) rest 3 f.2.each f.2.most (whole members rest ahead)
    (λ i. let e : 3 + i ≡ suc (suc (suc i)) = omega arith in ap (instr_at (words_of (V.Stores Shifts rs1 imm members) at ++ rest)) e)
members_read Short rs1 imm members at rest f ahead =
    members_back MOST_MEMBERS members (words_of (V.Stores Short rs1 imm members) at ++ rest) rest 1 f.2.each f.2.most (whole members rest ahead)
    (λ i. let e : 1 + i ≡ suc i = omega arith in ap (instr_at (words_of (V.Stores Short rs1 imm members) at ++ rest)) e)
members_read Long rs1 imm members at rest f ahead =
    members_back MOST_MEMBERS members (words_of (V.Stores Long rs1 imm members) at ++ rest) rest 2 f.2.each f.2.most (whole members rest ahead)
    (λ i. let e : 2 + i ≡ suc (suc i) = omega arith in ap (instr_at (words_of (V.Stores Long rs1 imm members) at ++ rest)) e)

stores_back : (mask : Mask) (rs1 imm : ℕ) (members : List Member) (at : ℕ) (rest : List ℕ) → Fits (V.Stores mask rs1 imm members) at →
    may_precede (V.Stores mask rs1 imm members) at rest ≡ true →
    stores_in mask (words_of (V.Stores mask rs1 imm members) at ++ rest) ≡ Some (V.Stores mask rs1 imm members)
unfolding words_of
stores_back Shifts rs1 imm members at rest f ahead =
    rw (decoded-code_of (Immediate Addi 31 rs1 imm) (lit< tt, f.0, f.1))
    (ap (λ l. Some (V.Stores Shifts rs1 imm l)) (members_read Shifts rs1 imm members at rest f ahead))
stores_back Short rs1 imm members at rest f ahead =
    rw (decoded-code_of (Register And 31 rs1 4) (lit< tt, f.0, lit< tt))
    (ap (λ l. Some (V.Stores Short rs1 0 l)) (members_read Short rs1 imm members at rest f ahead) ∙ ap (λ (i : ℕ). Some (V.Stores Short rs1 i members)) (sym f.3))
stores_back Long rs1 imm members at rest f ahead =
    rw (decoded-code_of (Immediate Addi 31 rs1 imm) (lit< tt, f.0, f.1))
    (ap (λ l. Some (V.Stores Long rs1 imm l)) (members_read Long rs1 imm members at rest f ahead))

pub fields_read : (u : U.Unit) (at : ℕ) (rest : List ℕ) → Fits u at → may_precede u at rest ≡ true →
    unit_of ((shape_of u at).end) (words_of u at ++ rest) at ≡ Some u
unfolding words_of
fields_read (V.Gate label) at rest f ahead = rw (decoded-code_of (gate label) (lit< tt, f)) refl
fields_read (V.Plain i) at rest f ahead = ap (option_map V.Plain) (decoded-code_of i f.0)
fields_read (V.Branch op rs1 rs2 target) at rest f ahead =
    rw (decoded-code_of (Branch op rs1 rs2 skip_offset) (f.0, f.1, lit< tt), decoded-code_of (jump (at + 4) target) (is_jump_instr 0 (at + 4) target (lit< tt)))
    (ap (λ t. Some (V.Branch op rs1 rs2 t)) f.2)
fields_read (V.Near op rs1 rs2 target) at rest f ahead =
    let is = decoded-code_of (Branch op rs1 rs2 (near_offset at target)) (f.0, f.1, mod_below _ (2 ^ 12) (lit< tt)) in
    elim (cases_Bool (near_offset at target == skip_offset)) [
      | inl over ↦ rw (over, is) (ap (λ t. Some (V.Near op rs1 rs2 t)) f.2)
      | inr near ↦ rw (near, is) (ap (λ t. Some (V.Near op rs1 rs2 t)) f.2)
    ]
fields_read (V.Jump target) at rest f ahead =
    rw (decoded-code_of (jump at target) (is_jump_instr 0 at target (lit< tt))) (ap (λ t. Some (V.Jump t)) f.1)
fields_read V.Stop at rest f ahead = refl
fields_read (V.System S.Ecall) at rest f ahead = refl
fields_read (V.System S.Ebreak) at rest f ahead = refl
fields_read (V.Guarded numbers) at rest f ahead = ap (λ l. Some (V.Guarded l)) (guarded_read numbers at rest f.0.each f.0.most)
fields_read (V.Stores mask rs1 imm members) at rest f ahead =
    let back = stores_back mask rs1 imm members at rest f ahead in
    elim (cases_Bool (length members == 16)) [
      | inl all ↦ rw all back
      | inr fewer ↦ rw fewer back
    ]
fields_read (V.Call target) at rest f ahead =
    rw (decoded-code_of (Jal 1 (jump_offset (at + 28) target)) (is_jump_instr 1 (at + 28) target (lit< tt))) (ap (λ t. Some (V.Call t)) f.1)
fields_read (V.Ijump which rs1 imm label) at rest f ahead =
    rw (decoded-code_of (Immediate Addi 31 rs1 imm) (lit< tt, f.0, f.1), decoded-code_of (Upper Lui 4 label) (lit< tt, f.2)) refl
fields_read (V.Icall rs1 imm label) at rest f ahead =
    rw (decoded-code_of (Immediate Addi 31 rs1 imm) (lit< tt, f.0.0, f.0.1), decoded-code_of (Upper Lui 4 label) (lit< tt, f.0.2)) refl
fields_read V.Return at rest f ahead = refl
fields_read (V.LinkCall target) at rest f ahead =
    rw (decoded-code_of (Jal 1 (jump_offset at target)) (is_jump_instr 1 at target (lit< tt))) (ap (λ t. Some (V.LinkCall t)) f)
fields_read V.Enter at rest f ahead = refl
fields_read (V.LeanIjump rs1 imm label) at rest f ahead =
    rw (decoded-code_of (Immediate Addi 31 rs1 imm) (lit< tt, f.0, f.1), decoded-code_of (Upper Lui 4 label) (lit< tt, f.2)) refl
fields_read (V.LeanIcall rs1 imm label) at rest f ahead =
    rw (decoded-code_of (Immediate Addi 31 rs1 imm) (lit< tt, f.0, f.1), decoded-code_of (Upper Lui 4 label) (lit< tt, f.2)) refl
fields_read V.LeafReturn at rest f ahead = refl
