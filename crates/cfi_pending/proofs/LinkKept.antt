-- No word of a unit that may stand at a fresh start writes x1; and a step from a word of a unit leaves a register as it was that none of its
-- words writes.
use Rattle.std.proofs.Common.{◌≡◌, ℕ, zero, suc, ◌==◌, Bool, true, false, not, inl, inr, List, [], ◌∷◌, ◌++◌, Option, Some, None, refl, ap, ◌∙◌, arith}
use Rattle.std.specs.Prelude.{map, slice_get}
use Rattle.std.proofs.lemmas.Bool.{or_parts, not-true}
use Rattle.std.proofs.lemmas.Bool.Decides.{nat_tests}
use Rattle.std.proofs.lemmas.Option.{slice_get_cases}
use Rattle.rv_image.specs.MemoryMap.{Profile}
use Rattle.rv_word.specs.Memory.{Memory}
use Rattle.rv_instr.specs.Operands.{written}
use Rattle.rv_instr.specs.Registers.{Registers}
use Rattle.rv_instr.specs.declared.instr.Instr.{Instr}
use Rattle.rv_instr.specs.declared.instr.Instr.TheVariants.{Upper, Jal, Jalr, Branch, Load, Store, Immediate, Shift, ShiftWord, Register, Fence, Ecall, Ebreak}
use Rattle.rv_code.specs.State.{After, Hart, Shared}
use Rattle.rv_code.specs.Step.{step}
use Rattle.cfi_unit.specs.declared.mask.Mask.{Mask}
use Rattle.cfi_unit.specs.declared.mask.Mask.TheVariants.{Shifts, Short, Long}
use Rattle.cfi_unit.specs.declared.members.Member.{Member}
use Rattle.cfi_unit.specs.declared.place.Place.TheVariants.{Body as body}
use Rattle.cfi_unit.specs.declared.unit.Unit as U
use Rattle.cfi_unit.specs.declared.unit.Unit.TheVariants as V
use Rattle.cfi_unit.specs.declared.unit.SystemOp.TheVariants as S
use Rattle.cfi_unit.specs.Context.{Context}
use Rattle.cfi_unit.specs.Guarded.{guards}
use Rattle.cfi_unit.specs.InPlace.{InUnit}
use Rattle.cfi_unit.specs.Leaving.{is_this, result_register, write_register}
use Rattle.cfi_unit.specs.Members.{member_instr}
use Rattle.cfi_unit.specs.Stand.{Stand}
use Rattle.cfi_unit.specs.UnitLaw.{UnitMayStand}
use Rattle.cfi_unit.specs.UnitWords.{instrs_of, mask_instrs}
use Rattle.cfi_unit.proofs.Context.{at_word}
use Rattle.cfi_unit.proofs.EffectUnits.{set_other}
use Rattle.cfi_unit.proofs.Gates.{place_length}
use Rattle.cfi_unit.proofs.PlaceWords.{place_word}
use Rattle.cfi_unit.proofs.RegisterLaw.{exec_sets}
use Rattle.cfi_pending.specs.Starts.{fresh, is_link, may_stand}

unlinked : (o : Option ℕ) → not (is_link o) ≡ true → is_this o 1 ≡ false
unlinked None may = refl
unlinked (Some rd) may = not-true (rd == 1) may

plain_spares : (i : Instr) → not (is_link (written i)) ≡ true → is_this (result_register i) 1 ≡ false
plain_spares (Upper op rd imm) may = unlinked (Some rd) may
plain_spares (Jal rd imm) may = unlinked (Some rd) may
plain_spares (Jalr rd rs1 imm) may = unlinked (Some rd) may
plain_spares (Branch op rs1 rs2 imm) may = refl
plain_spares (Load op rd rs1 imm) may = unlinked (Some rd) may
plain_spares (Store op rs1 rs2 imm) may = refl
plain_spares (Immediate op rd rs1 imm) may = unlinked (Some rd) may
plain_spares (Shift op rd rs1 amount) may = unlinked (Some rd) may
plain_spares (ShiftWord op rd rs1 amount) may = unlinked (Some rd) may
plain_spares (Register op rd rs1 rs2) may = unlinked (Some rd) may
plain_spares (Fence word) may = refl
plain_spares Ecall may = refl
plain_spares Ebreak may = refl

guards_spare : (ns : List ℕ) (rest : List Instr) → write_register rest 1 ≡ false → write_register (guards ns ++ rest) 1 ≡ false
guards_spare [] rest none = none
guards_spare (n ∷ ns) rest none = guards_spare ns rest none

members_spare : (members : List Member) → write_register (map member_instr members) 1 ≡ false
members_spare [] = refl
members_spare (m ∷ members) = members_spare members

stores_spare : (mask : Mask) (rs1 imm : ℕ) (members : List Member) → write_register (mask_instrs mask rs1 imm ++ map member_instr members) 1 ≡ false
stores_spare Shifts rs1 imm members = members_spare members
stores_spare Short rs1 imm members = members_spare members
stores_spare Long rs1 imm members = members_spare members

link_spared : (unit : U.Unit) (at : ℕ) → may_stand fresh unit ≡ true → write_register (instrs_of unit at) 1 ≡ false
link_spared (V.Gate label) at may = refl
link_spared (V.Plain instr) at may = rw (plain_spares instr may) refl
link_spared (V.Branch op rs1 rs2 target) at may = refl
link_spared (V.Near op rs1 rs2 target) at may = refl
link_spared (V.Jump target) at may = refl
link_spared V.Stop at may = refl
link_spared (V.System S.Ecall) at may = refl
link_spared (V.System S.Ebreak) at may = refl
link_spared (V.Guarded numbers) at may = guards_spare numbers _ refl
link_spared (V.Stores mask rs1 imm members) at may = stores_spare mask rs1 imm members
link_spared V.Enter at may = refl
link_spared V.LeafReturn at may = refl
link_spared (V.Call target) at may = absurd cc
link_spared (V.Ijump which rs1 imm label) at may = absurd cc
link_spared (V.Icall rs1 imm label) at may = absurd cc
link_spared V.Return at may = absurd cc
link_spared (V.LinkCall target) at may = absurd cc
link_spared (V.LeanIjump rs1 imm label) at may = absurd cc
link_spared (V.LeanIcall rs1 imm label) at may = absurd cc

-- where no instruction writes it, one of them does not
spares_at : (reg : ℕ) (is : List Instr) (k : ℕ) (i : Instr) → write_register is reg ≡ false → slice_get is k ≡ Some i → result_register i ≡ Some reg → ⊥
spares_at reg [] k i none at result = cc
spares_at reg (j ∷ is) zero i none at result =
    let same : j ≡ i = cc in
    let first : is_this (result_register j) reg ≡ false = (or_parts _ _ none).0 in
    let here : is_this (result_register j) reg ≡ (reg == reg) = ap (λ x. is_this (result_register x) reg) same ∙ ap (λ o. is_this o reg) result in
    no_self reg (first_is reg first here)
  where
    first_is : (reg : ℕ) {b : Bool} → b ≡ false → b ≡ (reg == reg) → (reg == reg) ≡ false
    first_is reg e f = cc

    no_self : (reg : ℕ) → (reg == reg) ≡ false → ⊥
    no_self reg e = grind (arith, nat_tests)
spares_at reg (j ∷ is) (suc k) i none at result = spares_at reg is k i (or_parts _ _ none).1 at result

pub register_stays : (reg : ℕ) (p : Profile) (part : ℕ) (image base : Memory) (unit : U.Unit) (at : ℕ) (pending : List ℕ) (r : Registers) (h : Hart) (s : Shared) →
    write_register (instrs_of unit at) reg ≡ false → UnitMayStand unit at pending → Stand image at (instrs_of unit at) → Context part image base pending s →
    InUnit part image unit at pending r h s.memory → (step p h s).hart.regs reg ≡ h.regs reg
register_stays reg p part image base unit at pending r h s none may w c i =
    let (k, below, here) = place_word p part image (body unit) at pending r h s.memory may i in
    let size = place_length p pending (body unit) at may in
    elim (slice_get_cases (instrs_of unit at) k).1 [
      | inl found ↦
          at_word (λ (a : After). a.hart.regs reg ≡ h.regs reg) p h c w k found.0 found.2 here
          (exec_sets p found.0 h s reg
          (λ rd v result. set_other h.regs rd v reg (λ same. spares_at reg (instrs_of unit at) k found.0 none found.2 (result ∙ ap (λ n. Some n) same))))
      | inr past ↦ let beyond = past.0 in absurd (omega arith)
    ]

-- so x1 stays from a fresh start on
pub link_stays : (p : Profile) (part : ℕ) (image base : Memory) (unit : U.Unit) (at : ℕ) (pending : List ℕ) (r : Registers) (h : Hart) (s : Shared) →
    may_stand fresh unit ≡ true → UnitMayStand unit at pending → Stand image at (instrs_of unit at) → Context part image base pending s →
    InUnit part image unit at pending r h s.memory → (step p h s).hart.regs 1 ≡ h.regs 1
link_stays p part image base unit at pending r h s fits may w c i =
    register_stays 1 p part image base unit at pending r h s (link_spared unit at fits) may w c i
