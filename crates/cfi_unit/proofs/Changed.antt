-- The facts of a word: where its pc is, that they begin where a unit is entered, and that changes
-- outside of the own part of the shadow keep them.
use Rattle.std.proofs.Common.{◌≡◌, ℕ, suc, ◌+◌, ◌<◌, inl, inr, List, [], ◌∷◌, length, refl, ◌∙◌, arith}
use Rattle.rv_image.specs.MemoryMap.{PART_SIZE, IsFullProfile, Profile, part_of}
use Rattle.rv_word.specs.Memory.{Memory, read}
use Rattle.rv_word.specs.Same.{SameOn}
use Rattle.rv_instr.specs.Registers.{Registers}
use Rattle.rv_code.specs.State.{Hart}
use Rattle.rv_code.proofs.Frames.{read_same}
use Rattle.cfi_unit.specs.declared.mask.Mask.{Mask}
use Rattle.cfi_unit.specs.declared.mask.Mask.TheVariants.{Shifts, Short, Long}
use Rattle.cfi_unit.specs.declared.unit.Unit as U
use Rattle.cfi_unit.specs.declared.unit.Unit.TheVariants as V
use Rattle.cfi_unit.specs.Prologue.{OPENING}
use Rattle.cfi_unit.specs.Place.{Place, handler, opening, closing, body}
use Rattle.cfi_unit.specs.Shadow.{slot, MOST_PENDING}
use Rattle.cfi_unit.specs.InPlace
use Rattle.cfi_unit.specs.InPlace.{only, branch_test, guarded_load, guarded_other, shifts_addi, short_and, long_addi, InMask, stores_mask, InEnter, enter_slli, enter_bne, enter_deep, enter_store, enter_grow, lean_check, leaf_jump, InPush, push_slli, push_bne, push_deep, push_auipc, push_addi, push_store, push_grow, Pushed, InCall, call_push, call_jump, check_addi, ijump_check, InIcall, icall_check, icall_push, icall_jump, return_ld, lone_stack, own_stack, InOpening, opening_lone, opening_own, opening_call, closing_number, InUnit}
use Rattle.cfi_unit.specs.Templates.{Asks, MaskAsks}
use Rattle.cfi_unit.specs.UnitLaw.{MayStand}

module _ (part : ℕ) (m m' : Memory) (same : SameOn part (part + PART_SIZE) m m') where
  site_same : (n site : ℕ) → n < MOST_PENDING → read 8 m (slot part n) ≡ site → read 8 m' (slot part n) ≡ site
  site_same n site room is = read_same 8 m m' (slot part n) (λ k low high. same k (omega arith) (omega arith)) ∙ is

  pushed_same : {site v n : ℕ} {h : Hart} → Pushed part site v n h m → Pushed part site v n h m'
  pushed_same {site = site} {n = n} i = record { kept = i.kept; pointer = i.pointer; room = i.room; site_is = site_same n site i.room i.site_is }

  push_same : {at v n : ℕ} {h : Hart} → InPush part at v n h m → InPush part at v n h m'
  push_same (push_slli e x31 x3) = push_slli e x31 x3
  push_same (push_bne e x31 x3 x30) = push_bne e x31 x3 x30
  push_same (push_deep e x31 x3 full) = push_deep e x31 x3 full
  push_same (push_auipc e x31 x3 room) = push_auipc e x31 x3 room
  push_same (push_addi e x31 x3 room x30) = push_addi e x31 x3 room x30
  push_same (push_store e x31 x3 room x30) = push_store e x31 x3 room x30
  push_same {at = at} {n = n} (push_grow e x31 x3 room stored) = push_grow e x31 x3 room (site_same n (at + 32) room stored)

  call_same : {at v n : ℕ} {h : Hart} → InCall part at v n h m → InCall part at v n h m'
  call_same (call_push i) = call_push (push_same i)
  call_same (call_jump e i) = call_jump e (pushed_same i)

  icall_same : {image : Memory} {at rs1 imm label sum v n : ℕ} {h : Hart} →
      InIcall part image at rs1 imm label sum v n h m → InIcall part image at rs1 imm label sum v n h m'
  icall_same (icall_check i) = icall_check i
  icall_same (icall_push legal i) = icall_push legal (push_same i)
  icall_same (icall_jump e legal i) = icall_jump e legal (pushed_same i)

  enter_same : {at link n : ℕ} {h : Hart} → InEnter part at link n h m → InEnter part at link n h m'
  enter_same (enter_slli e x3 x1) = enter_slli e x3 x1
  enter_same (enter_bne e x3 x1 x30) = enter_bne e x3 x1 x30
  enter_same (enter_deep e x3 full) = enter_deep e x3 full
  enter_same (enter_store e x3 x1 room) = enter_store e x3 x1 room
  enter_same {link = link} {n = n} (enter_grow e x3 room is) = enter_grow e x3 room (site_same n link room is)

  opening_same : {p : Profile} {h : Hart} → InOpening p part h m → InOpening p part h m'
  opening_same (opening_lone e i) = opening_lone e i
  opening_same (opening_own e i) = opening_own e i
  opening_same (opening_call v i) = opening_call v (call_same i)

  unit_same : (image : Memory) (unit : U.Unit) (at : ℕ) (pending : List ℕ) (r : Registers) (h : Hart) →
      InUnit part image unit at pending r h m → InUnit part image unit at pending r h m'
  unit_same image (V.Call target) at pending r h i = call_same i
  unit_same image (V.Icall rs1 imm label) at pending r h i = icall_same i
  unit_same image V.Enter at pending r h i = (i.0, enter_same i.1)
  unit_same image V.Return at [] r h i = i
  unit_same image V.Return at (site ∷ pending) r h i = i
  unit_same image other at pending r h i = i

  pub in_place_changed : (p : Profile) (image : Memory) (place : Place) (at : ℕ) (pending : List ℕ) (r : Registers) (h : Hart) →
      InPlace.InPlace p part image place at pending r h m → InPlace.InPlace p part image place at pending r h m'
  in_place_changed p image handler at pending r h i = i
  in_place_changed p image (opening entry) at pending r h i = opening_same i
  in_place_changed p image closing at pending r h i = i
  in_place_changed p image (body unit) at pending r h i = unit_same image unit at pending r h i

-- a place may be entered: the opening by the hart whose own part it is, units want x3 past the newest
-- site, and a pending site
abbrev pub IsReady : ℕ → Place → List ℕ → Hart → Type 0
IsReady part handler pending h = Unit {0}
IsReady part (opening entry) pending h = part ≡ part_of (h.regs 10)
IsReady part closing pending h = Unit {0}
IsReady part (body unit) [] h = ⊥
IsReady part (body unit) (site ∷ pending) h = (h.regs 3 ≡ slot part (suc (length pending))) × Asks unit h.regs

module _ (part : ℕ) (image : Memory) (at : ℕ) (h : Hart) (m : Memory) where
  mask_begins : (mask : Mask) (n : ℕ) → h.regs 3 ≡ slot part n → h.pc ≡ at → MaskAsks mask h.regs → InMask mask part at n h
  mask_begins Shifts n x3 e asks = shifts_addi e x3
  mask_begins Short n x3 e asks = short_and e x3 asks
  mask_begins Long n x3 e asks = long_addi e x3 asks

  unit_begins : (unit : U.Unit) (site : ℕ) (pending : List ℕ) → h.regs 3 ≡ slot part (suc (length pending)) → h.pc ≡ at → Asks unit h.regs →
      InUnit part image unit at (site ∷ pending) h.regs h m
  unit_begins (V.Branch op rs1 rs2 target) site pending x3 e asks = branch_test e x3
  unit_begins (V.Guarded []) site pending x3 e asks = guarded_other (omega arith) x3 refl
  unit_begins (V.Guarded (n ∷ ns)) site pending x3 e asks = guarded_load 0 (omega arith) (omega arith) x3 refl refl
  unit_begins (V.Stores mask rs1 imm members) site pending x3 e asks = stores_mask (mask_begins mask (suc (length pending)) x3 e asks)
  unit_begins (V.Call target) site pending x3 e asks = call_push (push_slli e refl x3)
  unit_begins (V.Ijump which rs1 imm label) site pending x3 e asks = ijump_check (check_addi e x3 refl)
  unit_begins (V.Icall rs1 imm label) site pending x3 e asks = icall_check (check_addi e x3 refl)
  unit_begins V.Return site pending x3 e asks = return_ld e x3 refl
  unit_begins V.Enter site pending x3 e asks = (asks, enter_slli e x3 refl)
  unit_begins (V.LeanIjump rs1 imm label) site pending x3 e asks = lean_check (check_addi e x3 refl)
  unit_begins (V.LeanIcall rs1 imm label) site pending x3 e asks = lean_check (check_addi e x3 refl)
  unit_begins V.LeafReturn site pending x3 e asks = leaf_jump e x3 refl
  unit_begins other site pending x3 e asks = only e x3

  opening_begins : (p : Profile) → IsFullProfile p → part ≡ part_of (h.regs 10) → h.pc ≡ OPENING → InOpening p part h m
  opening_begins p (inl version) own e = opening_lone version (lone_stack e)
  opening_begins p (inr version) own e = opening_own version (own_stack e own)

  -- the facts of the first word
  pub place_begins : (p : Profile) (place : Place) (pending : List ℕ) → MayStand p place at pending → IsReady part place pending h → h.pc ≡ at →
      InPlace.InPlace p part image place at pending h.regs h m
  place_begins p handler pending may ready e = e
  place_begins p (opening entry) pending may ready e = opening_begins p may.0 ready (e ∙ may.1)
  place_begins p closing pending may ready e = closing_number e
  place_begins p (body unit) [] may ready e = absurd ready
  place_begins p (body unit) (site ∷ pending) may ready e = unit_begins unit site pending ready.0 e ready.1
