-- The pc of a word's facts is a word of what stands there.
use Rattle.std.proofs.Common.{◌≡◌, ℕ, ◌+◌, ◌-◌, ◌*◌, ◌/◌, ◌<◌, ◌≤◌, List, [], ◌∷◌, length, arith}
use Rattle.std.proofs.lemmas.Option.{slice_get_within}
use Rattle.rv_image.specs.MemoryMap.{IsFullProfile, Profile}
use Rattle.rv_word.specs.Memory.{Memory}
use Rattle.rv_instr.specs.Registers.{Registers}
use Rattle.rv_code.specs.State.{Hart}
use Rattle.cfi_unit.specs.declared.mask.Mask.{Mask}
use Rattle.cfi_unit.specs.declared.mask.Mask.TheVariants.{Shifts, Short, Long}
use Rattle.cfi_unit.specs.declared.target_word.TargetWord.{TargetWord}
use Rattle.cfi_unit.specs.declared.unit.Unit as U
use Rattle.cfi_unit.specs.declared.unit.Unit.TheVariants as V
use Rattle.cfi_unit.specs.UnitWords.{mask_words, word_count}
use Rattle.cfi_unit.specs.Prologue.{OPENING, call_at}
use Rattle.cfi_unit.specs.Place.{Place, handler, opening, closing, body, IsWordOf}
use Rattle.cfi_unit.specs.InPlace.{InWord, only, InBranch, branch_test, branch_jump, InGuarded, guarded_load, guarded_test, guarded_other, guarded_call, InMask, shifts_addi, shifts_slli, shifts_srli, short_and, long_addi, long_and, InStores, stores_mask, stores_store, InPush, push_slli, push_bne, push_deep, push_auipc, push_addi, push_store, push_grow, InCall, call_push, call_jump, InCheck, check_addi, check_andi, check_lui, check_sub, check_srli, check_region, check_outside, check_lw, check_label, check_opcode, check_word, check_other, InIjump, ijump_check, ijump_jump, InIcall, icall_check, icall_push, icall_jump, InLean, lean_check, lean_upper, lean_lower, lean_jump, InEnter, enter_slli, enter_bne, enter_deep, enter_store, enter_grow, InLeafReturn, leaf_jump, InReturn, return_ld, return_addi, return_beq, return_other, return_jump, InLoneSetUp, lone_stack, lone_shadow, lone_slot, InOwnSetUp, own_stack, own_stack_offset, own_stack_end, own_shadow, own_offset, own_part, own_slot, InOpening, opening_lone, opening_own, opening_call, InClosing, closing_number, closing_ecall, InUnit, InPlace}
use Rattle.cfi_unit.specs.UnitLaw.{MayStand}
use Rattle.cfi_unit.proofs.Parts.{call_site}

-- one of `n` words from an address on
abbrev Among : ℕ → ℕ → ℕ → Type 0
Among n at pc = (k : ℕ) × (4 * k < 4 * n) × (pc ≡ at + 4 * k)

later : (first n all at pc : ℕ) → first + n ≤ all → Among n (at + 4 * first) pc → Among all at pc
later first n all at pc fits w = let below = w.1 in let e = w.2 in (first + w.0, omega arith, omega arith)

closing_word : {at : ℕ} {h : Hart} → InClosing at h → Among 2 at h.pc
closing_word (closing_number e) = (0, omega arith, omega arith)
closing_word (closing_ecall e x17) = (1, omega arith, e)

pub lone_word : {h : Hart} → InLoneSetUp h → Among 3 OPENING h.pc
lone_word (lone_stack e) = (0, omega arith, e)
lone_word (lone_shadow e) = (1, omega arith, e)
lone_word (lone_slot e x3) = (2, omega arith, e)

mask_word : (mask : Mask) (part at n : ℕ) (h : Hart) → InMask mask part at n h → Among (mask_words mask) at h.pc
mask_word Shifts part at n h (shifts_addi e x3) = (0, omega arith, omega arith)
mask_word Shifts part at n h (shifts_slli e x3) = (1, omega arith, e)
mask_word Shifts part at n h (shifts_srli e x3 small) = (2, omega arith, e)
mask_word Short part at n h (short_and e x3 x4) = (0, omega arith, omega arith)
mask_word Long part at n h (long_addi e x3 x4) = (0, omega arith, omega arith)
mask_word Long part at n h (long_and e x3 x4) = (1, omega arith, e)

module _ {part : ℕ} {h : Hart} where
  pub own_word : InOwnSetUp part h → Among 7 OPENING h.pc
  own_word (own_stack e own) = (0, omega arith, e)
  own_word (own_stack_offset e own) = (1, omega arith, e)
  own_word (own_stack_end e own) = (2, omega arith, e)
  own_word (own_shadow e own) = (3, omega arith, e)
  own_word (own_offset e own x3) = (4, omega arith, e)
  own_word (own_part e x31 x3) = (5, omega arith, e)
  own_word (own_slot e x3) = (6, omega arith, e)

  only_word : {at n : ℕ} → InWord part at n h → Among 1 at h.pc
  only_word (only e x3) = (0, omega arith, omega arith)

  branch_word : {at n : ℕ} → InBranch part at n h → Among 2 at h.pc
  branch_word (branch_test e x3) = (0, omega arith, omega arith)
  branch_word (branch_jump e x3) = (1, omega arith, e)

  guarded_word : {at : ℕ} {ns : List ℕ} {x n : ℕ} → InGuarded part at ns x n h → Among (2 + 2 * length ns) at h.pc
  guarded_word (guarded_load k below e x3 x17 none) = (2 * k, omega arith, e)
  guarded_word {ns = ns} (guarded_test k number is e x3 x17 none x31) =
      let below = slice_get_within ns k number is in (2 * k + 1, omega arith, e)
  guarded_word {ns = ns} (guarded_other e x3 none) = (2 * length ns, omega arith, e)
  guarded_word {ns = ns} (guarded_call e x3 x17 listed) = (2 * length ns + 1, omega arith, e)

  stores_word : {mask : Mask} {at count n : ℕ} → InStores mask part at count n h → Among (mask_words mask + count) at h.pc
  stores_word {mask = mask} {at = at} {n = n} (stores_mask i) =
      let w = mask_word mask part at n h i in let below = w.1 in (w.0, omega arith, w.2)
  stores_word {mask = mask} (stores_store k below e x3 small) = (mask_words mask + k, omega arith, e)

  leaf_word : {at link n : ℕ} → InLeafReturn part at link n h → Among 1 at h.pc
  leaf_word (leaf_jump e x3 x1) = (0, omega arith, omega arith)

  return_word : {at link site n : ℕ} → InReturn part at link site n h → Among 5 at h.pc
  return_word (return_ld e x3 x1) = (0, omega arith, omega arith)
  return_word (return_addi e x3 x1 x31) = (1, omega arith, e)
  return_word (return_beq e x3 x1 x31) = (2, omega arith, e)
  return_word (return_other e x3 apart) = (3, omega arith, e)
  return_word (return_jump e x3 same x31) = (4, omega arith, e)

  module _ {image : Memory} {which : TargetWord} {at rs1 imm label sum v n : ℕ} where
    check_words : InCheck part image which at rs1 imm label sum v n h → Among 12 at h.pc
    check_words (check_addi e x3 is) = (0, omega arith, omega arith)
    check_words (check_andi e x3 x31) = (1, omega arith, e)
    check_words (check_lui e x3 x31) = (2, omega arith, e)
    check_words (check_sub e x3 x31 x30) = (3, omega arith, e)
    check_words (check_srli e x3 x31 x30) = (4, omega arith, e)
    check_words (check_region e x3 x31 x30) = (5, omega arith, e)
    check_words (check_outside e x3 outside) = (6, omega arith, e)
    check_words (check_lw e x3 x31 code) = (7, omega arith, e)
    check_words (check_label e x3 x31 code x30) = (8, omega arith, e)
    check_words (check_opcode e x3 x31 code x30 x4) = (9, omega arith, e)
    check_words (check_word e x3 x31 code x30 x4) = (10, omega arith, e)
    check_words (check_other e x3 other) = (11, omega arith, e)

    ijump_word : InIjump part image which at rs1 imm label sum v n h → Among 13 at h.pc
    ijump_word (ijump_check i) = let w = check_words i in let below = w.1 in (w.0, omega arith, w.2)
    ijump_word (ijump_jump e checked) = (12, omega arith, e)

    lean_word : InLean part image which at rs1 imm label sum v n h → Among 15 at h.pc
    lean_word (lean_check i) = let w = check_words i in let below = w.1 in (w.0, omega arith, w.2)
    lean_word (lean_upper e checked) = (12, omega arith, e)
    lean_word (lean_lower e checked x4) = (13, omega arith, e)
    lean_word (lean_jump e checked x4) = (14, omega arith, e)

  module _ {m : Memory} where
    push_word : {at v n : ℕ} → InPush part at v n h m → Among 7 at h.pc
    push_word (push_slli e x31 x3) = (0, omega arith, omega arith)
    push_word (push_bne e x31 x3 x30) = (1, omega arith, e)
    push_word (push_deep e x31 x3 full) = (2, omega arith, e)
    push_word (push_auipc e x31 x3 room) = (3, omega arith, e)
    push_word (push_addi e x31 x3 room x30) = (4, omega arith, e)
    push_word (push_store e x31 x3 room x30) = (5, omega arith, e)
    push_word (push_grow e x31 x3 room stored) = (6, omega arith, e)

    call_word : {at v n : ℕ} → InCall part at v n h m → Among 8 at h.pc
    call_word (call_push i) = let w = push_word i in let below = w.1 in (w.0, omega arith, w.2)
    call_word (call_jump e pushed) = (7, omega arith, e)

    icall_word : {image : Memory} {at rs1 imm label sum v n : ℕ} → InIcall part image at rs1 imm label sum v n h m → Among 20 at h.pc
    icall_word (icall_check i) = let w = check_words i in let below = w.1 in (w.0, omega arith, w.2)
    icall_word {at = at} (icall_push legal i) = later 12 7 20 at h.pc (omega arith) (push_word i)
    icall_word (icall_jump e legal pushed) = (19, omega arith, e)

    enter_word : {at link n : ℕ} → InEnter part at link n h m → Among 5 at h.pc
    enter_word (enter_slli e x3 x1) = (0, omega arith, omega arith)
    enter_word (enter_bne e x3 x1 x30) = (1, omega arith, e)
    enter_word (enter_deep e x3 full) = (2, omega arith, e)
    enter_word (enter_store e x3 x1 room) = (3, omega arith, e)
    enter_word (enter_grow e x3 room stored) = (4, omega arith, e)

    -- one of the opening's first eleven words, or of its call's
    opening_word : (p : Profile) → IsFullProfile p → InOpening p part h m → (k : ℕ) × (4 * k < p.closing - OPENING) × (h.pc ≡ OPENING + 4 * k)
    opening_word p is (opening_lone version i) = let w = lone_word i in let below = w.1 in let site = call_site p is in (w.0, omega arith, w.2)
    opening_word p is (opening_own version i) = let w = own_word i in let below = w.1 in let site = call_site p is in (w.0, omega arith, w.2)
    opening_word p is (opening_call v i) =
        let w = call_word i in
        let below = w.1 in
        let e = w.2 in
        let site = call_site p is in
        ((call_at p - OPENING) / 4 + w.0, omega arith, omega arith)

unit_word : (part : ℕ) (image : Memory) (unit : U.Unit) (at : ℕ) (pending : List ℕ) (r : Registers) (h : Hart) (m : Memory) →
    InUnit part image unit at pending r h m → Among (word_count unit) at h.pc
unit_word part image (V.Branch op rs1 rs2 target) at pending r h m i = branch_word i
unit_word part image (V.Guarded numbers) at pending r h m i = guarded_word i
unit_word part image (V.Stores mask rs1 imm members) at pending r h m i = stores_word i
unit_word part image (V.Call target) at pending r h m i = call_word i
unit_word part image (V.Ijump which rs1 imm label) at pending r h m i = ijump_word i
unit_word part image (V.Icall rs1 imm label) at pending r h m i = icall_word i
unit_word part image V.Enter at pending r h m i = enter_word i.1
unit_word part image (V.LeanIjump rs1 imm label) at pending r h m i = lean_word i
unit_word part image (V.LeanIcall rs1 imm label) at pending r h m i = lean_word i
unit_word part image V.LeafReturn at pending r h m i = leaf_word i
unit_word part image V.Return at [] r h m i = absurd i
unit_word part image V.Return at (site ∷ pending) r h m i = return_word i
unit_word part image other at pending r h m i = only_word i

pub place_word : (p : Profile) (part : ℕ) (image : Memory) (place : Place) (at : ℕ) (pending : List ℕ) (r : Registers) (h : Hart) (m : Memory) →
    MayStand p place at pending → InPlace p part image place at pending r h m → IsWordOf p place at h.pc
place_word p part image handler at pending r h m may e = (0, omega arith, omega arith)
place_word p part image (opening entry) at pending r h m may i =
    let w = opening_word p may.0 i in let e = w.2 in let here = may.1 in (w.0, w.1, omega arith)
place_word p part image closing at pending r h m may i = closing_word i
place_word p part image (body unit) at pending r h m may i = unit_word part image unit at pending r h m i
