-- What each word of a place puts its result into, and that a step keeps the other registers of the program.
use Rattle.std.proofs.Common.{◌≡◌, ℕ, Bool, true, zero, suc, ◌+◌, ◌-◌, ◌*◌, ◌==◌, ◌≤◌, false, inl, inr, List, [], ◌∷◌, ◌++◌, append_assoc, length, Option, Some, None, refl, sym, ap, subst, ◌∙◌, arith}
use Rattle.std.specs.Prelude.{map, replicate, slice_get}
use Rattle.std.specs.Option.{option_map}
use Rattle.std.proofs.lemmas.Bool.{cond_both, ne_eqb}
use Rattle.std.proofs.lemmas.List.{map-append, replicate-append-replicate}
use Rattle.std.proofs.lemmas.Option.{slice_get_cases, slice_get-map}
use Rattle.rv_image.specs.MemoryMap.{Profile, can_load, can_store}
use Rattle.rv_instr.specs.Registers.{Registers, get_reg, set_reg}
use Rattle.rv_instr.specs.Reserved.{is_reserved}
use Rattle.rv_instr.specs.declared.instr.Instr.{Instr}
use Rattle.rv_instr.specs.declared.instr.Instr.TheVariants.{Upper, Jal, Jalr, Branch, Load, Store, Immediate, Shift, ShiftWord, Register, Fence, Ecall, Ebreak}
use Rattle.rv_instr.specs.declared.instr.UpperOp.TheVariants.{Lui, Auipc}
use Rattle.rv_code.specs.Arithmetic.{branch_taken, load_size, store_size}
use Rattle.rv_code.specs.State.{Hart, Shared, After}
use Rattle.rv_code.specs.Step.{exec, address}
use Rattle.cfi_unit.specs.declared.mask.Mask.{Mask}
use Rattle.cfi_unit.specs.declared.mask.Mask.TheVariants.{Shifts, Short, Long}
use Rattle.cfi_unit.specs.declared.members.Member.{Member}
use Rattle.cfi_unit.specs.declared.unit.Unit as U
use Rattle.cfi_unit.specs.declared.unit.Unit.TheVariants as V
use Rattle.cfi_unit.specs.declared.unit.SystemOp.TheVariants as S
use Rattle.cfi_unit.specs.Guarded.{guards}
use Rattle.cfi_unit.specs.Members.{member_instr}
use Rattle.cfi_unit.specs.UnitWords.{instrs_of, mask_instrs, mask_words}
use Rattle.cfi_unit.specs.Prologue.{lean_set_up, opening_by, set_up}
use Rattle.cfi_unit.specs.Place.{handler, opening, closing, body, place_instrs}
use Rattle.cfi_unit.specs.Leaving.{result_register}
use Rattle.cfi_unit.specs.Results.{RegistersStay, ResultsListed, if_of_program, lean_set_up_results, opening_results, place_results, program_result, set_up_results, unit_results}
use Rattle.cfi_unit.proofs.Context.{at_word}
use Rattle.cfi_unit.proofs.EffectUnits.{call_keeps, set_other}
use Rattle.cfi_unit.proofs.Gates.{place_length}
use Rattle.cfi_unit.proofs.PlaceWords.{place_word}

-- a test is two words with no result of the program's
guards_results : (ns : List ℕ) → map program_result (guards ns) ≡ replicate (2 * length ns) None
guards_results [] = refl
guards_results (n ∷ ns) =
    let longer : 2 * length (n ∷ ns) ≡ suc (suc (2 * length ns)) = omega arith in
    rw longer (ap (λ (l : List (Option ℕ)). None ∷ None ∷ l) (guards_results ns))

members_results : (members : List Member) → map program_result (map member_instr members) ≡ replicate (length members) None
members_results [] = refl
members_results (m ∷ members) = ap (λ (l : List (Option ℕ)). None ∷ l) (members_results members)

mask_results : (mask : Mask) (rs1 imm : ℕ) → map program_result (mask_instrs mask rs1 imm) ≡ replicate (mask_words mask) None
mask_results Shifts rs1 imm = refl
mask_results Short rs1 imm = refl
mask_results Long rs1 imm = refl

pub mask_some : (mask : Mask) → 1 ≤ mask_words mask
mask_some Shifts = omega arith
mask_some Short = omega arith
mask_some Long = omega arith

stores_results : (mask : Mask) (rs1 imm : ℕ) (members : List Member) →
    map program_result (mask_instrs mask rs1 imm ++ map member_instr members) ≡ replicate (mask_words mask + length members) None
stores_results mask rs1 imm members =
    map-append program_result (mask_instrs mask rs1 imm) _
    ∙ ap (λ (l : List (Option ℕ)). l ++ map program_result (map member_instr members)) (mask_results mask rs1 imm)
    ∙ ap (λ (l : List (Option ℕ)). replicate (mask_words mask) None ++ l) (members_results members)
    ∙ replicate-append-replicate (mask_words mask) (length members) None

-- rows without a result, then a row without one and a last row
with_last : (front : List (Option ℕ)) (n m : ℕ) (last : Option ℕ) → front ≡ replicate n None → m ≡ n + 1 →
    front ++ None ∷ last ∷ [] ≡ replicate m None ++ last ∷ []
with_last front n m last none longer =
    ap (λ (l : List (Option ℕ)). l ++ None ∷ last ∷ []) none ∙ sym (append_assoc (replicate n None) (None ∷ []) (last ∷ []))
    ∙ ap (λ (l : List (Option ℕ)). l ++ last ∷ []) (replicate-append-replicate n 1 None ∙ ap (λ k. replicate k None) (sym longer))

unit_listed : (unit : U.Unit) (at : ℕ) → map program_result (instrs_of unit at) ≡ unit_results unit
unit_listed (V.System S.Ecall) at = refl
unit_listed (V.System S.Ebreak) at = refl
unit_listed (V.Guarded ns) at =
    map-append program_result (guards ns) _ ∙ with_last _ (2 * length ns) _ (Some 10) (guards_results ns) (omega arith)
unit_listed (V.Stores mask rs1 imm members) at =
    let some = mask_some mask in
    stores_results mask rs1 imm members ∙ ap (λ n. replicate n None) (omega arith)
    ∙ sym (replicate-append-replicate (mask_words mask + length members - 1) 1 None)
unit_listed other at = refl

set_up_listed : (p : Profile) → map program_result (set_up p) ≡ set_up_results p
set_up_listed p =
    cond_both (p.harts == 1) _ _ (λ (l : List Instr). map program_result l ≡ set_up_results p) (λ one. rw one refl) (λ several. rw several refl)

lean_set_up_listed : (p : Profile) → map program_result (lean_set_up p) ≡ lean_set_up_results p
lean_set_up_listed p =
    cond_both (p.harts == 1) _ _ (λ (l : List Instr). map program_result l ≡ lean_set_up_results p) (λ one. rw one refl) (λ several. rw several refl)

opening_listed : (callee : Bool) (p : Profile) (entry : ℕ) → map program_result (opening_by callee p entry) ≡ opening_results callee p entry
opening_listed false p entry =
    map-append program_result (set_up p) _ ∙ ap (λ (l : List (Option ℕ)). l ++ unit_results (V.Call entry)) (set_up_listed p)
opening_listed true p entry =
    map-append program_result (lean_set_up p) _ ∙ ap (λ (l : List (Option ℕ)). l ++ unit_results (V.LinkCall entry)) (lean_set_up_listed p)

pub results_listed : ResultsListed
results_listed p handler at = refl
results_listed p (opening entry) at = opening_listed p.callee_saves p entry
results_listed p closing at = refl
results_listed p (body unit) at = unit_listed unit at

-- a step writes an instruction's result alone: what its write keeps, the step keeps
pub exec_sets : (p : Profile) (i : Instr) (h : Hart) (s : Shared) (reg : ℕ) →
    ((rd v : ℕ) → result_register i ≡ Some rd → set_reg h.regs rd v reg ≡ h.regs reg) → (exec p i h s).hart.regs reg ≡ h.regs reg
exec_sets p (Upper Lui rd imm) h s reg keeps = keeps rd _ refl
exec_sets p (Upper Auipc rd imm) h s reg keeps = keeps rd _ refl
exec_sets p (Jal rd imm) h s reg keeps = keeps rd _ refl
exec_sets p (Jalr rd rs1 imm) h s reg keeps = keeps rd _ refl
exec_sets p (Branch op rs1 rs2 imm) h s reg keeps =
    cond_both (branch_taken op (get_reg h.regs rs1) (get_reg h.regs rs2)) _ _ (λ (a : After). a.hart.regs reg ≡ h.regs reg) (λ taken. refl) (λ not_taken. refl)
exec_sets p (Load op rd rs1 imm) h s reg keeps =
    cond_both (can_load p (address h rs1 imm) (load_size op)) _ _ (λ (a : After). a.hart.regs reg ≡ h.regs reg) (λ can. keeps rd _ refl) (λ cannot. refl)
exec_sets p (Store op rs1 rs2 imm) h s reg keeps =
    cond_both (can_store p (address h rs1 imm) (store_size op)) _ _ (λ (a : After). a.hart.regs reg ≡ h.regs reg) (λ can. refl) (λ cannot. refl)
exec_sets p (Immediate op rd rs1 imm) h s reg keeps = keeps rd _ refl
exec_sets p (Shift op rd rs1 amount) h s reg keeps = keeps rd _ refl
exec_sets p (ShiftWord op rd rs1 amount) h s reg keeps = keeps rd _ refl
exec_sets p (Register op rd rs1 rs2) h s reg keeps = keeps rd _ refl
exec_sets p (Fence word) h s reg keeps = refl
exec_sets p Ecall h s reg keeps =
    call_keeps h s reg
    (λ same.
    let written = subst (λ (k : ℕ). set_reg h.regs 10 (suc (h.regs 10)) k ≡ h.regs k) same (keeps 10 (suc (h.regs 10)) refl) in
    absurd (omega arith))
exec_sets p Ebreak h s reg keeps = refl

-- no write but that of its own result changes a register of the program, and none x0
set_keeps : (reg : ℕ) → is_reserved reg ≡ false → (regs : Registers) (rd v : ℕ) → (if_of_program (Some rd) ≡ Some reg → ⊥) →
    set_reg regs rd v reg ≡ regs reg
set_keeps reg free regs zero v other = refl
set_keeps reg free regs (suc rd) v other =
    set_other regs (suc rd) v reg
    (λ same.
    let plain : is_reserved (suc rd) ≡ false = ap is_reserved same ∙ free in
    let some : (suc rd == 0) ≡ false = ne_eqb (suc rd) 0 (λ none. absurd (omega arith)) in
    other (rw (some, plain) (ap (λ k. Some k) same)))

pub registers_stay : RegistersStay
registers_stay p part image base place at pending r h s may w c i reg free other =
    let (k, below, here) = place_word p part image place at pending r h s.memory may i in
    let size = place_length p pending place at may in
    elim (slice_get_cases (place_instrs p place at) k).1 [
      | inl found ↦
          let listed : slice_get (place_results p place) k ≡ Some (program_result found.0) =
          ap (λ l. slice_get l k) (sym (results_listed p place at)) ∙ slice_get-map program_result (place_instrs p place at) k ∙ ap (option_map program_result) found.2 in
          at_word (λ (a : After). a.hart.regs reg ≡ h.regs reg) p h c w k found.0 found.2 here
          (exec_sets p found.0 h s reg
          (λ rd v result. set_keeps reg free h.regs rd v (λ is. other (k, here, listed ∙ ap (λ o. Some o) (ap if_of_program result ∙ is)))))
      | inr past ↦ let beyond = past.0 in absurd (omega arith)
    ]
