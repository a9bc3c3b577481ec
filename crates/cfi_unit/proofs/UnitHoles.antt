-- The words of a unit that are in the holes of its shape, and that the others are the shape's own.
use Rattle.std.proofs.Common.{◌≡◌, ℕ, suc, ◌+◌, ◌*◌, ◌==◌, refl, ap, sym, ◌∙◌, inl, inr, List, [], ◌∷◌, ◌++◌, length, map, arith}
use Rattle.std.specs.Prelude.{drop, replicate, take}
use Rattle.std.proofs.lemmas.Bool.{cases_Bool}
use Rattle.std.proofs.lemmas.List.{map-append}
use Rattle.rv_instr.specs.declared.instr.Instr.TheVariants.{Upper, Jal, Jalr, Branch, Immediate, Register, Ecall}
use Rattle.rv_instr.specs.declared.instr.UpperOp.TheVariants.{Lui}
use Rattle.rv_instr.specs.declared.instr.ImmediateOp.TheVariants.{Addi}
use Rattle.rv_instr.specs.declared.instr.BranchOp.TheVariants.{Beq}
use Rattle.rv_instr.specs.declared.instr.RegisterOp.TheVariants.{And}
use Rattle.rv_code.specs.Encode.{code_of}
use Rattle.cfi_unit.specs.declared.mask.Mask.{Mask}
use Rattle.cfi_unit.specs.declared.mask.Mask.TheVariants.{Shifts, Short, Long}
use Rattle.cfi_unit.specs.declared.members.Member.{Member}
use Rattle.cfi_unit.specs.declared.pattern.Pattern.TheVariants as P
use Rattle.cfi_unit.specs.declared.target_word.TargetWord.TheVariants.{First}
use Rattle.cfi_unit.specs.declared.unit.Unit as U
use Rattle.cfi_unit.specs.declared.unit.Unit.TheVariants as V
use Rattle.cfi_unit.specs.declared.unit.SystemOp.TheVariants as S
use Rattle.cfi_unit.specs.Guarded.{guards}
use Rattle.cfi_unit.specs.Members.{member_instr}
use Rattle.cfi_unit.specs.UnitWords.{BAD_TARGET, DEEP, check, gate, jump, jump_offset, mask_instrs, near_offset, push, skip_offset, words_of}
use Rattle.cfi_unit.specs.Shapes.{guarded}
use Rattle.cfi_unit.specs.ShapeOf.{shape_of}
use Rattle.cfi_unit.proofs.Holes.{filled}

-- the word that puts a number into x31
abbrev pub load_word : ℕ → ℕ
load_word n = code_of (Immediate Addi 31 0 n)

abbrev pub member_word : Member → ℕ
member_word m = code_of (member_instr m)

-- the word that names a mask's register
abbrev pub mask_word : Mask → ℕ → ℕ → ℕ
mask_word Shifts rs1 imm = code_of (Immediate Addi 31 rs1 imm)
mask_word Short rs1 imm = code_of (Register And 31 rs1 4)
mask_word Long rs1 imm = code_of (Immediate Addi 31 rs1 imm)

abbrev pub holes_of : U.Unit → ℕ → List ℕ
holes_of (V.Gate label) at = code_of (gate label) ∷ []
holes_of (V.Plain instr) at = code_of instr ∷ []
holes_of (V.Branch op rs1 rs2 target) at = code_of (Branch op rs1 rs2 skip_offset) ∷ code_of (jump (at + 4) target) ∷ []
holes_of (V.Near op rs1 rs2 target) at = code_of (Branch op rs1 rs2 (near_offset at target)) ∷ []
holes_of (V.Jump target) at = code_of (jump at target) ∷ []
holes_of V.Stop at = []
holes_of (V.System op) at = []
holes_of (V.Guarded numbers) at = map load_word numbers
holes_of (V.Stores mask rs1 imm members) at = mask_word mask rs1 imm ∷ map member_word members
holes_of (V.Call target) at = code_of (Jal 1 (jump_offset (at + 28) target)) ∷ []
holes_of (V.Ijump which rs1 imm label) at = code_of (Immediate Addi 31 rs1 imm) ∷ code_of (Upper Lui 4 label) ∷ []
holes_of (V.Icall rs1 imm label) at = code_of (Immediate Addi 31 rs1 imm) ∷ code_of (Upper Lui 4 label) ∷ []
holes_of V.Return at = []
holes_of (V.LinkCall target) at = code_of (Jal 1 (jump_offset at target)) ∷ []
holes_of V.Enter at = []
holes_of (V.LeanIjump rs1 imm label) at = code_of (Immediate Addi 31 rs1 imm) ∷ code_of (Upper Lui 4 label) ∷ []
holes_of (V.LeanIcall rs1 imm label) at = code_of (Immediate Addi 31 rs1 imm) ∷ code_of (Upper Lui 4 label) ∷ []
holes_of V.LeafReturn at = []

-- the two families
pub guards_filled : (ns : List ℕ) (at k : ℕ) → filled (guarded (length ns)) at k (map load_word ns)
    ≡ map code_of (guards ns) ++ (code_of (jump (at + (k + 8 * length ns)) BAD_TARGET) ∷ code_of Ecall ∷ [])
guards_filled [] at k =
    let e : at + k ≡ at + (k + 8 * 0) = omega arith in ap (λ (a : ℕ). code_of (jump a BAD_TARGET) ∷ code_of Ecall ∷ []) e
guards_filled (n ∷ ns) at k =
    let e : at + (k + 4 + 4 + 8 * length ns) ≡ at + (k + 8 * suc (length ns)) = omega arith in
    ap (λ (l : List ℕ). load_word n ∷ code_of (Branch Beq 31 17 (4 * suc (length ns))) ∷ l)
    (guards_filled ns at (k + 4 + 4) ∙ ap (λ (a : ℕ). map code_of (guards ns) ++ (code_of (jump a BAD_TARGET) ∷ code_of Ecall ∷ [])) e)

pub members_filled : (ms : List Member) (at k : ℕ) → filled (replicate (length ms) P.Member) at k (map member_word ms) ≡ map code_of (map member_instr ms)
members_filled [] at k = refl
members_filled (m ∷ ms) at k = ap (λ l. member_word m ∷ l) (members_filled ms at (k + 4))

pub unit_filled : (u : U.Unit) (at : ℕ) → filled ((shape_of u at).words) at 0 (holes_of u at) ≡ words_of u at
unfolding words_of
unit_filled (V.Near op rs1 rs2 target) at =
    elim (cases_Bool (near_offset at target == skip_offset)) [ inl over ↦ rw over refl | inr other ↦ rw other refl ]
unit_filled V.Stop at = let e : at + 0 ≡ at = omega arith in ap (λ (a : ℕ). code_of (jump a BAD_TARGET) ∷ []) e
unit_filled (V.System S.Ecall) at = refl
unit_filled (V.System S.Ebreak) at = refl
unit_filled (V.Guarded numbers) at =
    let e : at + (0 + 8 * length numbers) ≡ at + 8 * length numbers = omega arith in
    guards_filled numbers at 0
    ∙ ap (λ (a : ℕ). map code_of (guards numbers) ++ (code_of (jump a BAD_TARGET) ∷ code_of Ecall ∷ [])) e
    ∙ sym (map-append code_of (guards numbers) (jump (at + 8 * length numbers) BAD_TARGET ∷ Ecall ∷ []))
unit_filled (V.Stores Shifts rs1 imm members) at = ap (λ l. map code_of (mask_instrs Shifts rs1 imm) ++ l) (members_filled members at 12)
unit_filled (V.Stores Short rs1 imm members) at = ap (λ l. map code_of (mask_instrs Short rs1 imm) ++ l) (members_filled members at 4)
unit_filled (V.Stores Long rs1 imm members) at = ap (λ l. map code_of (mask_instrs Long rs1 imm) ++ l) (members_filled members at 8)
unit_filled (V.Icall rs1 imm label) at =
    let e : at + 56 ≡ at + 48 + 8 = omega arith in
    ap
    (λ (a : ℕ). map code_of (check at rs1 imm label First ++ take 2 (push at))
    ++ (code_of (jump a DEEP) ∷ map code_of (drop 3 (push at) ++ Jalr 1 31 0 ∷ []))) e
unit_filled other at = refl
