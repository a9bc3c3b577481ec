-- Gates and system calls: either stands nowhere in instructions that lack it, as plain ones, stores and an opening do.
use Rattle.std.proofs.Common.{◌≡◌, ℕ, zero, suc, ◌&&◌, Bool, true, false, not, inl, inr, List, [], ◌∷◌, ◌++◌, Some, refl, sym, ap, subst, ◌∙◌}
use Rattle.std.specs.Prelude.{map, slice_get}
use Rattle.std.proofs.lemmas.Bool.{and_parts}
use Rattle.rv_image.specs.MemoryMap.{IsProfile, Profile}
use Rattle.rv_instr.specs.declared.instr.Instr.{Instr}
use Rattle.rv_instr.specs.declared.instr.Instr.TheVariants.{Upper, Jal, Jalr, Branch, Load, Store, Immediate, Shift, ShiftWord, Register, Fence, Ecall, Ebreak}
use Rattle.rv_instr.specs.declared.instr.UpperOp.TheVariants.{Lui, Auipc}
use Rattle.cfi_unit.specs.declared.mask.Mask.{Mask}
use Rattle.cfi_unit.specs.declared.mask.Mask.TheVariants.{Shifts, Short, Long}
use Rattle.cfi_unit.specs.declared.members.Member.{Member}
use Rattle.cfi_unit.specs.Members.{member_instr}
use Rattle.cfi_unit.specs.UnitWords.{is_plain, mask_instrs}
use Rattle.cfi_unit.specs.Prologue.{opening_instrs}

-- whether an instruction is a gate, where gates are sought, or else a system call
abbrev pub is_sought : Bool → Instr → Bool
is_sought gates (Upper Lui zero imm) = gates
is_sought gates (Upper Lui (suc rd) imm) = false
is_sought gates (Upper Auipc rd imm) = false
is_sought gates (Jal rd imm) = false
is_sought gates (Jalr rd rs1 imm) = false
is_sought gates (Branch op rs1 rs2 imm) = false
is_sought gates (Load op rd rs1 imm) = false
is_sought gates (Store op rs1 rs2 imm) = false
is_sought gates (Immediate op rd rs1 imm) = false
is_sought gates (Shift op rd rs1 amount) = false
is_sought gates (ShiftWord op rd rs1 amount) = false
is_sought gates (Register op rd rs1 rs2) = false
is_sought gates (Fence word) = false
is_sought gates Ecall = not gates
is_sought gates Ebreak = false

-- whether none of these is
abbrev pub lacks : Bool → List Instr → Bool
lacks gates [] = true
lacks gates (i ∷ is) = not (is_sought gates i) && lacks gates is

pub nowhere : (gates : Bool) (is : List Instr) (k : ℕ) (sought : Instr) → is_sought gates sought ≡ true → lacks gates is ≡ true →
    slice_get is k ≡ Some sought → ⊥
nowhere gates [] k sought is_it none at = cc
nowhere gates (i ∷ is) zero sought is_it none at =
    let same : i ≡ sought = cc in
    let here : is_sought gates i ≡ true = ap (is_sought gates) same ∙ is_it in
    let is_one : not (is_sought gates i) ≡ false = ap not here in
    let is_none : not (is_sought gates i) ≡ true = (and_parts _ _ none).0 in
    cc
nowhere gates (i ∷ is) (suc k) sought is_it none at = nowhere gates is k sought is_it (and_parts _ _ none).1 at

pub plain_lacks : (gates : Bool) (i : Instr) → is_plain i ≡ true → lacks gates (i ∷ []) ≡ true
plain_lacks gates (Upper Lui zero imm) plain = absurd (cc)
plain_lacks gates (Upper Lui (suc rd) imm) plain = refl
plain_lacks gates (Upper Auipc rd imm) plain = refl
plain_lacks gates (Jal rd imm) plain = refl
plain_lacks gates (Jalr rd rs1 imm) plain = refl
plain_lacks gates (Branch op rs1 rs2 imm) plain = refl
plain_lacks gates (Load op rd rs1 imm) plain = refl
plain_lacks gates (Store op rs1 rs2 imm) plain = refl
plain_lacks gates (Immediate op rd rs1 imm) plain = refl
plain_lacks gates (Shift op rd rs1 amount) plain = refl
plain_lacks gates (ShiftWord op rd rs1 amount) plain = refl
plain_lacks gates (Register op rd rs1 rs2) plain = refl
plain_lacks gates (Fence word) plain = refl
plain_lacks gates Ecall plain = absurd (cc)
plain_lacks gates Ebreak plain = refl

members_lack : (gates : Bool) (members : List Member) → lacks gates (map member_instr members) ≡ true
members_lack gates [] = refl
members_lack gates (m ∷ members) = members_lack gates members

pub stores_lack : (gates : Bool) (mask : Mask) (rs1 imm : ℕ) (members : List Member) →
    lacks gates (mask_instrs mask rs1 imm ++ map member_instr members) ≡ true
stores_lack gates Shifts rs1 imm members = members_lack gates members
stores_lack gates Short rs1 imm members = members_lack gates members
stores_lack gates Long rs1 imm members = members_lack gates members

pub opening_lacks : (gates : Bool) (p : Profile) → IsProfile p → (entry : ℕ) → lacks gates (opening_instrs p entry) ≡ true
opening_lacks gates p (inl (inl e)) entry = subst (λ (x : Profile). lacks gates (opening_instrs x entry) ≡ true) (sym e) refl
opening_lacks gates p (inl (inr e)) entry = subst (λ (x : Profile). lacks gates (opening_instrs x entry) ≡ true) (sym e) refl
opening_lacks gates p (inr (inl e)) entry = subst (λ (x : Profile). lacks gates (opening_instrs x entry) ≡ true) (sym e) refl
opening_lacks gates p (inr (inr e)) entry = subst (λ (x : Profile). lacks gates (opening_instrs x entry) ≡ true) (sym e) refl
