-- No word of a unit writes the mask of stores in x4, but of one that tests a computed destination.
use Rattle.std.proofs.Common.{◌≡◌, ℕ, zero, suc, ◌==◌, true, false, not, inl, inr, List, [], ◌∷◌, ◌++◌, Some, refl, ap, ◌∙◌, arith}
use Rattle.std.specs.Prelude.{map, slice_get}
use Rattle.std.proofs.lemmas.Bool.{and_parts, or_parts}
use Rattle.std.proofs.lemmas.Bool.Decides.{nat_tests}
use Rattle.std.proofs.lemmas.Option.{slice_get_cases}
use Rattle.rv_instr.specs.Reserved.{is_reserved}
use Rattle.rv_instr.specs.declared.instr.Instr.{Instr}
use Rattle.rv_instr.specs.declared.instr.Instr.TheVariants.{Upper, Jal, Jalr, Branch, Load, Store, Immediate, Shift, ShiftWord, Register, Fence, Ecall, Ebreak}
use Rattle.rv_code.specs.State.{After}
use Rattle.cfi_unit.specs.declared.mask.Mask.{Mask}
use Rattle.cfi_unit.specs.declared.mask.Mask.TheVariants.{Shifts, Short, Long}
use Rattle.cfi_unit.specs.declared.members.Member.{Member}
use Rattle.cfi_unit.specs.declared.unit.Unit as U
use Rattle.cfi_unit.specs.declared.unit.Unit.TheVariants as V
use Rattle.cfi_unit.specs.declared.unit.SystemOp.TheVariants as S
use Rattle.cfi_unit.specs.Guarded.{guards}
use Rattle.cfi_unit.specs.Leaving.{is_this, result_register, write_register}
use Rattle.cfi_unit.specs.MaskLaw.{MaskStays, writes_mask}
use Rattle.cfi_unit.specs.Members.{member_instr}
use Rattle.cfi_unit.specs.Place.{body}
use Rattle.cfi_unit.specs.UnitWords.{Fits, instrs_of, is_plain, mask_instrs}
use Rattle.cfi_unit.proofs.Context.{at_word}
use Rattle.cfi_unit.proofs.EffectUnits.{set_other}
use Rattle.cfi_unit.proofs.Gates.{place_length}
use Rattle.cfi_unit.proofs.PlaceWords.{place_word}
use Rattle.cfi_unit.proofs.RegisterLaw.{exec_sets}

-- x4 is reserved
free_spares : (rd : ℕ) → not (is_reserved rd) ≡ true → (rd == 4) ≡ false
free_spares rd free = grind (arith, nat_tests)

plain_spares : (i : Instr) → is_plain i ≡ true → is_this (result_register i) 4 ≡ false
plain_spares (Upper op rd imm) plain = free_spares rd (and_parts _ _ plain).0
plain_spares (Jal rd imm) plain = absurd (cc)
plain_spares (Jalr rd rs1 imm) plain = absurd (cc)
plain_spares (Branch op rs1 rs2 imm) plain = refl
plain_spares (Load op rd rs1 imm) plain = free_spares rd plain
plain_spares (Store op rs1 rs2 imm) plain = refl
plain_spares (Immediate op rd rs1 imm) plain = free_spares rd plain
plain_spares (Shift op rd rs1 amount) plain = free_spares rd plain
plain_spares (ShiftWord op rd rs1 amount) plain = free_spares rd plain
plain_spares (Register op rd rs1 rs2) plain = free_spares rd plain
plain_spares (Fence word) plain = refl
plain_spares Ecall plain = refl
plain_spares Ebreak plain = refl

guards_spare : (ns : List ℕ) (rest : List Instr) → write_register rest 4 ≡ false → write_register (guards ns ++ rest) 4 ≡ false
guards_spare [] rest none = none
guards_spare (n ∷ ns) rest none = guards_spare ns rest none

members_spare : (members : List Member) → write_register (map member_instr members) 4 ≡ false
members_spare [] = refl
members_spare (m ∷ members) = members_spare members

stores_spare : (mask : Mask) (rs1 imm : ℕ) (members : List Member) → write_register (mask_instrs mask rs1 imm ++ map member_instr members) 4 ≡ false
stores_spare Shifts rs1 imm members = members_spare members
stores_spare Short rs1 imm members = members_spare members
stores_spare Long rs1 imm members = members_spare members

pub unit_spares : (unit : U.Unit) (at : ℕ) → Fits unit at → writes_mask unit ≡ false → write_register (instrs_of unit at) 4 ≡ false
unit_spares (V.Plain instr) at fits stays = rw (plain_spares instr fits.1) refl
unit_spares (V.System S.Ecall) at fits stays = refl
unit_spares (V.System S.Ebreak) at fits stays = refl
unit_spares (V.Guarded numbers) at fits stays = guards_spare numbers _ refl
unit_spares (V.Stores mask rs1 imm members) at fits stays = stores_spare mask rs1 imm members
unit_spares (V.Ijump which rs1 imm label) at fits stays = absurd (cc)
unit_spares (V.Icall rs1 imm label) at fits stays = absurd (cc)
unit_spares (V.LeanIjump rs1 imm label) at fits stays = absurd (cc)
unit_spares (V.LeanIcall rs1 imm label) at fits stays = absurd (cc)
unit_spares other at fits stays = refl

-- where no instruction writes it, one of them does not
spares_at : (is : List Instr) (k : ℕ) (i : Instr) → write_register is 4 ≡ false → slice_get is k ≡ Some i → result_register i ≡ Some 4 → ⊥
spares_at [] k i none at result = cc
spares_at (j ∷ is) zero i none at result =
    let same : j ≡ i = cc in
    let first : is_this (result_register j) 4 ≡ false = (or_parts _ _ none).0 in
    let written : is_this (result_register j) 4 ≡ true = ap (λ x. is_this (result_register x) 4) same ∙ ap (λ o. is_this o 4) result in
    cc
spares_at (j ∷ is) (suc k) i none at result = spares_at is k i (or_parts _ _ none).1 at result

pub mask_stays : MaskStays
mask_stays p part image base unit at pending r h s other may w c i =
    let (k, below, here) = place_word p part image (body unit) at pending r h s.memory may i in
    let size = place_length p pending (body unit) at may in
    elim (slice_get_cases (instrs_of unit at) k).1 [
      | inl found ↦
          at_word (λ (a : After). a.hart.regs 4 ≡ h.regs 4) p h c w k found.0 found.2 here
          (exec_sets p found.0 h s 4
          (λ rd v result.
          set_other h.regs rd v 4
          (λ same. spares_at (instrs_of unit at) k found.0 (unit_spares unit at may.0 other) found.2 (result ∙ ap (λ n. Some n) same))))
      | inr past ↦ let beyond = past.0 in absurd (omega arith)
    ]
